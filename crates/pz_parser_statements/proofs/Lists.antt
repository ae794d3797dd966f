-- Lists of statements and of branches as lists.
use Rattle.std.proofs.Common.{◌≡◌, ℕ, suc, ◌+◌, ◌<◌, List, [], ◌∷◌, ◌++◌, length, refl, ap, sym, ◌∙◌, arith}
use Rattle.pz_syntax.specs.declared.tokens.Pos.{Pos}
use Rattle.pz_syntax.specs.declared.tokens.Symbol.TheVariants as s
use Rattle.pz_syntax.specs.declared.tokens.Keyword.{Keyword}
use Rattle.pz_syntax.specs.declared.tokens.TokenKind.TheVariants as kind
use Rattle.pz_syntax.specs.declared.tokens.Mark.{Mark}
use Rattle.pz_syntax.specs.declared.names.Id.{Id}
use Rattle.pz_syntax.specs.Marks.{symbol, keyword}
use Rattle.pz_syntax.specs.Statements.{Statements, no_statements, then, Branches, no_branches, branch}
use Rattle.pz_syntax.specs.StatementView.{Tree, sequence_of, branches_of}
use Rattle.pz_syntax.specs.StatementText.{text, texts, tail_texts, branches_text, tail_branches}
use Rattle.pz_syntax.specs.StatementForm.{IsStatement, AreStatements, FollowStatements, AreBranches, FollowBranches}
use Rattle.pz_syntax.specs.StatementNesting.{nesting, nestings, branches_nesting}
use Rattle.pz_syntax.specs.ModelForm.{Each}
use Rattle.pz_parser_cursor.specs.Places.{Placing, place_tail as place_behind, place_separated}
use Rattle.pz_parser_cursor.proofs.Joined.{joined, tails, Filled}
use Rattle.pz_parser_statements.specs.StatementPlaces.{place, place_all, place_tail, place_branches, place_tail_branches}

-- a statement whose constructs nest less deep than the bound
abbrev pub Fits : ℕ → Tree → Type 0
Fits bound t = IsStatement t × (nesting t < bound)

-- ---- statements

abbrev pub to_list : Statements Id Id Id → List Tree
to_list no_statements = []
to_list (then t ts) = t ∷ to_list ts

pub list_back : (ts : Statements Id Id Id) → sequence_of (to_list ts) ≡ ts
list_back no_statements = refl
list_back (then t ts) = ap (then t) (list_back ts)

tails_are : (xs : List Tree) → tails text (kind.Sym s.Semicolon) xs ≡ tail_texts (sequence_of xs)
tails_are [] = refl
tails_are (t ∷ ts) = ap (λ r. symbol s.Semicolon ∷ (text t ++ r)) (tails_are ts)

pub texts_are : (xs : List Tree) → joined text (kind.Sym s.Semicolon) xs ≡ texts (sequence_of xs)
texts_are [] = refl
texts_are (t ∷ ts) = ap (λ r. text t ++ r) (tails_are ts)

pub texts_of : (ts : Statements Id Id Id) → texts ts ≡ joined text (kind.Sym s.Semicolon) (to_list ts)
texts_of ts = ap texts (sym (list_back ts)) ∙ sym (texts_are (to_list ts))

behind_are : (at : ℕ → Pos) (k : ℕ) (ts : Statements Id Id Id) → place_behind text place at k (to_list ts) ≡ to_list (place_tail at k ts)
behind_are at k no_statements = refl
behind_are at k (then t ts) = ap (λ r. place at (suc k) t ∷ r) (behind_are at (suc k + length (text t)) ts)

pub places_are : (at : ℕ → Pos) (k : ℕ) (ts : Statements Id Id Id) → place_separated text place at k (to_list ts) ≡ to_list (place_all at k ts)
places_are at k no_statements = refl
places_are at k (then t ts) = ap (λ r. place at k t ∷ r) (behind_are at (k + length (text t)) ts)

-- ---- branches

abbrev pub sequence_text : List Tree → List Mark
sequence_text ts = texts (sequence_of ts)

abbrev pub place_sequence : Placing (List Tree)
place_sequence at k ts = to_list (place_all at k (sequence_of ts))

abbrev pub to_lists : Branches Id Id Id → List (List Tree)
to_lists no_branches = []
to_lists (branch b bs) = to_list b ∷ to_lists bs

pub lists_back : (bs : Branches Id Id Id) → branches_of (to_lists bs) ≡ bs
lists_back no_branches = refl
lists_back (branch b bs) = ap (λ c. branch c (branches_of (to_lists bs))) (list_back b) ∙ ap (branch b) (lists_back bs)

module _ (separator : Keyword) where
  branch_tails_are : (bs : List (List Tree)) → tails sequence_text (kind.Key separator) bs ≡ tail_branches separator (branches_of bs)
  branch_tails_are [] = refl
  branch_tails_are (b ∷ bs) = ap (λ r. keyword separator ∷ (sequence_text b ++ r)) (branch_tails_are bs)

  pub branches_are : (bs : List (List Tree)) → joined sequence_text (kind.Key separator) bs ≡ branches_text separator (branches_of bs)
  branches_are [] = refl
  branches_are (b ∷ bs) = ap (λ r. sequence_text b ++ r) (branch_tails_are bs)

  pub branches_texts : (bs : Branches Id Id Id) → branches_text separator bs ≡ joined sequence_text (kind.Key separator) (to_lists bs)
  branches_texts bs = ap (branches_text separator) (sym (lists_back bs)) ∙ sym (branches_are (to_lists bs))

branches_behind : (at : ℕ → Pos) (k : ℕ) (bs : Branches Id Id Id) → place_behind sequence_text place_sequence at k (to_lists bs) ≡ to_lists (place_tail_branches at k bs)
branches_behind at k no_branches = refl
branches_behind at k (branch b bs) =
    let e = list_back b in
    ap (λ c. to_list (place_all at (suc k) c) ∷ place_behind sequence_text place_sequence at (suc k + length (texts c)) (to_lists bs)) e
    ∙ ap (λ r. to_list (place_all at (suc k) b) ∷ r) (branches_behind at (suc k + length (texts b)) bs)

pub branch_places : (at : ℕ → Pos) (k : ℕ) (bs : Branches Id Id Id) → place_separated sequence_text place_sequence at k (to_lists bs) ≡ to_lists (place_branches at k bs)
branch_places at k no_branches = refl
branch_places at k (branch b bs) =
    let e = list_back b in
    ap (λ c. to_list (place_all at k c) ∷ place_behind sequence_text place_sequence at (k + length (texts c)) (to_lists bs)) e
    ∙ ap (λ r. to_list (place_all at k b) ∷ r) (branches_behind at (k + length (texts b)) bs)

-- ---- form and nesting

module _ (bound : ℕ) where
  pub follow : (xs : List Tree) → Each (Fits bound) xs → FollowStatements (sequence_of xs)
  follow [] h = tt
  follow (t ∷ ts) h = (h.0.0, follow ts h.1)

  tail_nested : (xs : List Tree) → 0 < bound → Each (Fits bound) xs → nestings (sequence_of xs) < bound
  tail_nested [] lt h = lt
  tail_nested (t ∷ ts) lt h = omega (arith, h.0.1, tail_nested ts lt h.1)

  pub are : (xs : List Tree) → Filled (Fits bound) xs → AreStatements (sequence_of xs)
  are [] h = absurd h
  are (t ∷ ts) h = (h.0.0, follow ts h.1)

  pub nested : (xs : List Tree) → Filled (Fits bound) xs → nestings (sequence_of xs) < bound
  nested [] h = absurd h
  nested (t ∷ ts) h = let lt : 0 < bound = omega (arith, h.0.1) in omega (arith, h.0.1, tail_nested ts lt h.1)

  each_of_list : (ts : Statements Id Id Id) → FollowStatements ts → nestings ts < bound → Each (Fits bound) (to_list ts)
  each_of_list no_statements h lt = tt
  each_of_list (then t ts) h lt = ((h.0, omega (arith, lt)), each_of_list ts h.1 (omega (arith, lt)))

  pub filled_of : (ts : Statements Id Id Id) → AreStatements ts → nestings ts < bound → Filled (Fits bound) (to_list ts)
  filled_of no_statements h lt = absurd h
  filled_of (then t ts) h lt = ((h.0, omega (arith, lt)), each_of_list ts h.1 (omega (arith, lt)))

  follow_branches : (bs : List (List Tree)) → Each (Filled (Fits bound)) bs → FollowBranches (branches_of bs)
  follow_branches [] h = tt
  follow_branches (b ∷ bs) h = (are b h.0, follow_branches bs h.1)

  tail_branches_nested : (bs : List (List Tree)) → 0 < bound → Each (Filled (Fits bound)) bs → branches_nesting (branches_of bs) < bound
  tail_branches_nested [] lt h = lt
  tail_branches_nested (b ∷ bs) lt h = omega (arith, nested b h.0, tail_branches_nested bs lt h.1)

  pub are_branches : (bs : List (List Tree)) → Filled (Filled (Fits bound)) bs → AreBranches (branches_of bs)
  are_branches [] h = absurd h
  are_branches (b ∷ bs) h = (are b h.0, follow_branches bs h.1)

  pub branches_nested : (bs : List (List Tree)) → Filled (Filled (Fits bound)) bs → branches_nesting (branches_of bs) < bound
  branches_nested [] h = absurd h
  branches_nested (b ∷ bs) h = let n = nested b h.0 in let lt : 0 < bound = omega (arith, n) in omega (arith, n, tail_branches_nested bs lt h.1)

  each_of_lists : (bs : Branches Id Id Id) → FollowBranches bs → branches_nesting bs < bound → Each (Filled (Fits bound)) (to_lists bs)
  each_of_lists no_branches h lt = tt
  each_of_lists (branch b bs) h lt = (filled_of b h.0 (omega (arith, lt)), each_of_lists bs h.1 (omega (arith, lt)))

  pub filled_of_branches : (bs : Branches Id Id Id) → AreBranches bs → branches_nesting bs < bound → Filled (Filled (Fits bound)) (to_lists bs)
  filled_of_branches no_branches h lt = absurd h
  filled_of_branches (branch b bs) h lt = (filled_of b h.0 (omega (arith, lt)), each_of_lists bs h.1 (omega (arith, lt)))
