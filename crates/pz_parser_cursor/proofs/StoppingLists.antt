-- Where tokens, names, what may be left out and lists stop.
use Rattle.std.proofs.Common.{◌≡◌, ℕ, zero, suc, ◌≤◌, ◌<◌, Bool, true, false, List, [], ◌∷◌, ◌++◌, length, Option, Some, None, Ok, refl, ap, sym, ◌∙◌, subst, arith, length-append}
use Rattle.std.specs.Prelude.{⊤, codes}
use Rattle.pz_syntax.specs.declared.tokens.Keyword.{Keyword}
use Rattle.pz_syntax.specs.declared.tokens.TokenKind.{TokenKind}
use Rattle.pz_syntax.specs.declared.tokens.TokenKind.TheVariants as kind
use Rattle.pz_syntax.specs.declared.tokens.Mark.{Mark}
use Rattle.pz_syntax.specs.declared.names.Id.{Id}
use Rattle.pz_syntax.specs.ExpressionErasure.{origin}
use Rattle.pz_syntax.specs.Marks.{mark, word, word_text, each_text, optional as optional_text, section as section_text}
use Rattle.pz_syntax.specs.ModelForm.{Each, IfWritten}
use Rattle.pz_syntax.specs.ModelNesting.{greatest, optional_nesting}
use Rattle.pz_parser_cursor.specs.declared.ahead.Next.{Next}
use Rattle.pz_parser_cursor.specs.declared.ahead.Next.TheVariants as n
use Rattle.pz_parser_cursor.specs.devices.LookAhead.{next, same}
use Rattle.pz_parser_cursor.specs.devices.Input.{Tokens, marks, after, identifier, name, position, sees}
use Rattle.pz_parser_cursor.specs.devices.Device.{Outcome, Parser, ◌>>=◌, ◌<$>◌, pure, refuse, skip, take_id, expect, expect_id, optional, behind, section, or_none}
use Rattle.pz_parser_cursor.specs.devices.Lists.{turns, tail_of, more_of, list_of, with_front, repeat, each_of}
use Rattle.pz_parser_cursor.proofs.Shown.{token_of}
use Rattle.pz_parser_cursor.proofs.Steps.{takes, sees_is}
use Rattle.pz_parser_cursor.proofs.Words.{word_is}
use Rattle.pz_parser_cursor.proofs.Loops.{past_is, past_not}
use Rattle.pz_parser_cursor.proofs.Joined.{tails, joined, Filled}
use Rattle.pz_parser_cursor.proofs.Stopping.{Form, token_form, both, Pass, took, stopped, Taken, Low, low_ok, low_err, Kept, beyond, alike, failing, wider, ExactAt, Exact, low, passed_length, marks_length, bind_pass, pass_second, pass_into, pass_mapped, kept_bind, same_all, into, bind_at, pure_exact, mapped, refuse_exact, Peeks, taking, if_at}

pub sees_peeks : (x : Next) → Peeks (sees x)
unfolding sees same next
sees_peeks x t u w = refl

pub identifier_peeks : Peeks identifier
unfolding identifier name position
identifier_peeks t u w = refl

abbrev pub some_id : Id
some_id = record { name = codes "x"; pos = origin }

-- a name that shows so
abbrev pub name_form : (Id → Mark) → Form
name_form spelled = record { Shape = Id; text = λ x. spelled x ∷ []; Fits = λ n x. ⊤; some = λ n lt. (some_id, tt) }

abbrev pub word_form : Form
word_form = record { Shape = Id; text = word_text; Fits = λ n x. ⊤; some = λ n lt. (some_id, tt) }

abbrev pub optional_form : Form → Form
optional_form F = record { Shape = Option F.Shape; text = optional_text F.text; Fits = λ n. IfWritten (F.Fits n); some = λ n lt. (None, tt) }

abbrev pub section_form : Keyword → Form → Form
section_form key F = record { Shape = Option F.Shape; text = section_text key F.text; Fits = λ n. IfWritten (F.Fits n); some = λ n lt. (None, tt) }

abbrev pub tails_form : TokenKind → Form → Form
tails_form x F = record { Shape = List F.Shape; text = tails F.text x; Fits = λ n. Each (F.Fits n); some = λ n lt. ([], tt) }

abbrev pub joined_form : TokenKind → Form → Form
joined_form x F = record { Shape = List F.Shape; text = joined F.text x; Fits = λ n. Filled (F.Fits n); some = λ n lt. ((F.some n lt).0 ∷ [], ((F.some n lt).1, tt)) }

abbrev pub each_form : Form → Form
each_form F = record { Shape = List F.Shape; text = each_text F.text; Fits = λ n. Each (F.Fits n); some = λ n lt. ([], tt) }

module _ (W : Type 0) (b : ℕ) where
  pub expect_exact : (x : Next) (y : TokenKind) → token_of x ≡ Some y → Exact W b (expect x) (expect x) (token_form (mark y))
  unfolding expect
  expect_exact x y shows i =
      let c = if_at W b (sees x) (λ j. Ok (tt, after j)) (λ j. Ok (tt, after j)) refuse refuse (token_form (mark y)) i (sees_peeks x) (λ h. taking W b (λ j. tt) (token_form (mark y)) tt i (λ t u w. refl) (takes y i (ap token_of (sees_is x i h) ∙ shows)) (λ n. tt)) (λ h. refuse_exact W b (token_form (mark y)) i) in
      record { pass = c.pass; same = c.same }

  pub expect_id_exact : (x : Next) (spelled : Id → Mark) → ((i : Tokens) → next i ≡ x → marks i ≡ spelled (identifier i) ∷ marks (after i)) → Exact W b (expect_id x) (expect_id x) (name_form spelled)
  unfolding expect_id
  expect_id_exact x spelled shows i =
      let c = if_at W b (sees x) (λ j. Ok (identifier j, after j)) (λ j. Ok (identifier j, after j)) refuse refuse (name_form spelled) i (sees_peeks x) (λ h. taking W b identifier (name_form spelled) (identifier i) i identifier_peeks (shows i (sees_is x i h)) (λ n. tt)) (λ h. refuse_exact W b (name_form spelled) i) in
      record { pass = c.pass; same = c.same }

  pub word_exact : Exact W b (expect_id n.Word) (expect_id n.Word) word_form
  word_exact i = into W b (λ x. x) (λ x. refl) (λ n lt x h. tt) (expect_id_exact n.Word word word_is i)

  -- the next token is known
  pub skip_at : (x : Next) (y : TokenKind) (i : Tokens) → token_of x ≡ Some y → next i ≡ x → ExactAt W b skip skip (token_form (mark y)) i
  skip_at x y i shows h = taking W b (λ j. tt) (token_form (mark y)) tt i (λ t u w. refl) (takes y i (ap token_of h ∙ shows)) (λ n. tt)

  pub take_word_at : (i : Tokens) → next i ≡ n.Word → ExactAt W b take_id take_id word_form i
  take_word_at i h = taking W b identifier word_form (identifier i) i identifier_peeks (word_is i h) (λ n. tt)

  module _ {V : Type 0} (p q : Parser V) (F : Form) where
    pub optional_exact : (begins : Tokens → Bool) → Peeks begins → ((i : Tokens) → begins i ≡ true → ExactAt W b p q F i) → Exact W b (optional begins p) (optional begins q) (optional_form F)
    optional_exact begins peeks e i =
        if_at W b begins (Some <$> p) (Some <$> q) (pure None) (pure None) (optional_form F) i peeks
        (λ h. into W b (λ x. Some x) (λ x. refl) (λ n lt x f. f) (mapped W b (λ x. Some x) (e i h)))
        (λ h. into W b (λ x. None) (λ x. refl) (λ n lt x f. tt) (pure_exact W b None i))

    pub section_exact : (x : Next) (key : Keyword) → token_of x ≡ Some (kind.Key key) → Exact W b p q F → Exact W b (section x p) (section x q) (section_form key F)
    section_exact x key shows e i =
        if_at W b (sees x) (Some <$> behind x p) (Some <$> behind x q) (pure None) (pure None) (section_form key F) i (sees_peeks x)
        (λ h. into W b (λ y. Some y.1) (λ y. refl) (λ n lt y f. f.1) (mapped W b (λ y. Some y) (bind_at W b (expect_exact x (kind.Key key) shows i) (λ u. e))))
        (λ h. into W b (λ y. None) (λ y. refl) (λ n lt y f. tt) (pure_exact W b None i))

  pub or_none_exact : {A : Type 0} (r s : Parser (List A)) (G : Form) (begins : Tokens → Bool) (none : G.Shape) → G.text none ≡ [] → ((n : ℕ) → 0 < n → G.Fits n none) → Peeks begins → ((i : Tokens) → begins i ≡ true → ExactAt W b r s G i) → Exact W b (or_none begins r) (or_none begins s) G
  or_none_exact r s G begins none empty fits peeks e i = if_at W b begins r s (pure []) (pure []) G i peeks (e i) (λ h. into W b (λ x. none) (λ x. empty) (λ n lt x f. fits n lt) (pure_exact W b [] i))

-- ---- lists

pub kept_le : {V : Type 0} (n : ℕ) (o : Outcome V) (y : V × Tokens) → Low n o → o ≡ Ok y → length y.1 ≤ n
kept_le n o y l e = by (subst (λ p. Low n p) e l)
  where
    by : Low n (Ok y) → length y.1 ≤ n
    by (low_ok y h) = h

pub low_pure : {V : Type 0} (x : V) (i : Tokens) → Low (length i) (Ok (x, i))
low_pure x i = low_ok (x, i) (omega arith)

pass_front : {A : Type 0} (b : ℕ) (F : Form) (i : Tokens) (front : List A) (o : Outcome (List A)) → Pass b F i o → Pass b F i (with_front front o)
pass_front b F i front _ (took y t) = took (front ++ y.0, y.1) t
pass_front b F i front _ (stopped r s) = stopped r s

low_front : {A : Type 0} (n : ℕ) (front : List A) (o : Outcome (List A)) → Low n o → Low n (with_front front o)
low_front n front _ (low_ok y h) = low_ok (front ++ y.0, y.1) h
low_front n front _ (low_err r h) = low_err r h

kept_front : {A : Type 0} (W : Type 0) (u w : Tokens) (front : List A) (o p : Outcome (List A)) → Kept W u w o p → Kept W u w (with_front front o) (with_front front p)
kept_front W u w front o p (beyond _ _ h) = beyond (with_front front o) (with_front front p) (low_front (length u) front o h)
kept_front W u w front _ _ (alike x c) = alike (front ++ x) c
kept_front W u w front _ _ (failing r e) = failing r e
kept_front W u w front _ p (wider r _ h x) = wider r (with_front front p) h x

-- what was read before it stands in front
pub front_exact : {A : Type 0} (W : Type 0) (b : ℕ) (front : List A) (p q : Parser (List A)) (F : Form) → Exact W b p q F → Exact W b (λ i. with_front front (p i)) (λ i. with_front front (q i)) F
front_exact W b front p q F e i = record {
  pass = pass_front b F i front (p i) (e i).pass;
  same = λ lt t a u w h. kept_front W u w front (p i) (q (t ∷ (a ++ w))) ((e i).same lt t a u w h);
}

module _ {V : Type 0} (b : ℕ) (F : Form) where
  -- an item, and the list behind it
  more_pass : (item : Parser V) (rest : Parser (List V)) (G : Form) (i : Tokens) → Pass b F i (item i) → ((j : Tokens) → Pass b G j (rest j)) → Pass b (both F G) i ((item >>= (λ x. rest >>= (λ xs. pure (x ∷ xs)))) i)
  more_pass item rest G i p r = bind_pass b F G i (item i) (λ x. rest >>= (λ xs. pure (x ∷ xs))) p (λ y. pass_mapped b G y.1 (rest y.1) (λ xs. y.0 ∷ xs) (r y.1))

  low_more : (rest : Parser (List V)) (G : Form) → ((j : Tokens) → Pass b G j (rest j)) → (y : V × Tokens) → Low (length y.1) ((rest >>= (λ xs. pure (y.0 ∷ xs))) y.1)
  low_more rest G r y = low (pass_mapped b G y.1 (rest y.1) (λ xs. y.0 ∷ xs) (r y.1))

  module _ (sep : Next) (x : TokenKind) (shows : token_of sep ≡ Some x) where
    tails_pass : (item : Parser V) → ((i : Tokens) → Pass b F i (item i)) → (turn : ℕ) (i : Tokens) → Pass b (tails_form x F) i (tail_of item sep turn i)
    unfolding tail_of
    tails_pass item p zero i = took ([], i) (record { shape = []; parts = refl; meets = λ n le lt. tt })
    tails_pass item p (suc turn) i = by (λ j. tails_pass item p turn j) (sees sep i) refl
      where
        by : ((j : Tokens) → Pass b (tails_form x F) j (tail_of item sep turn j)) → (c : Bool) → sees sep i ≡ c → Pass b (tails_form x F) i (tail_of item sep (suc turn) i)
        by again false h = rw (h, past_not sep i h) (took ([], i) (record { shape = []; parts = refl; meets = λ n le lt. tt }))
        by again true h =
            let head : Taken b (token_form (mark x)) i (after i) = record { shape = tt; parts = takes x i (ap token_of (sees_is sep i h) ∙ shows); meets = λ n le lt. tt } in
            let whole = pass_second b (token_form (mark x)) (both F (tails_form x F)) i (after i) _ head (more_pass item (tail_of item sep turn) (tails_form x F) (after i) (p (after i)) again) in
            rw (h, past_is sep i h) (pass_into b (both (token_form (mark x)) (both F (tails_form x F))) (tails_form x F) i _ (λ v. v.1.0 ∷ v.1.1) (λ v. refl) (λ n lt v f. f.1) whole)

    kept_tails : (W : Type 0) (item other : Parser V) → Exact W b item other F → 0 < b → (turn turns : ℕ) (a u w : Tokens) → length (a ++ u) ≤ turn → length (a ++ w) ≤ turns → Kept W u w (tail_of item sep turn (a ++ u)) (tail_of other sep turns (a ++ w))
    unfolding tail_of after
    kept_tails W item other e lt turn turns [] u w le ge = beyond (tail_of item sep turn u) (tail_of other sep turns w) (low (tails_pass item (λ i. (e i).pass) turn u))
    kept_tails W item other e lt zero turns (t ∷ a) u w le ge = absurd (omega (arith, le))
    kept_tails W item other e lt (suc turn) zero (t ∷ a) u w le ge = absurd (omega (arith, ge))
    kept_tails W item other e lt (suc turn) (suc turns) (t ∷ a) u w le ge = by (λ c p q. kept_tails W item other e lt turn turns c u w p q) (sees sep (t ∷ (a ++ u))) refl
      where
        by : ((c : Tokens) → length (c ++ u) ≤ turn → length (c ++ w) ≤ turns → Kept W u w (tail_of item sep turn (c ++ u)) (tail_of other sep turns (c ++ w))) → (c : Bool) → sees sep (t ∷ (a ++ u)) ≡ c → Kept W u w (tail_of item sep (suc turn) (t ∷ (a ++ u))) (tail_of other sep (suc turns) (t ∷ (a ++ w)))
        by again false h =
            let g : sees sep (t ∷ (a ++ w)) ≡ false = sym (sees_peeks sep t (a ++ u) (a ++ w)) ∙ h in
            rw (h, g, past_not sep (t ∷ (a ++ u)) h, past_not sep (t ∷ (a ++ w)) g) (alike [] (t ∷ a))
        by again true h =
            let g : sees sep (t ∷ (a ++ w)) ≡ true = sym (sees_peeks sep t (a ++ u) (a ++ w)) ∙ h in
            let rest : (z : V) (c : Tokens) → item (a ++ u) ≡ Ok (z, c ++ u) → Kept W u w ((tail_of item sep turn >>= (λ xs. pure (z ∷ xs))) (c ++ u)) ((tail_of other sep turns >>= (λ xs. pure (z ∷ xs))) (c ++ w)) =
            λ z c r.
            let k = kept_le (length (a ++ u)) (item (a ++ u)) (z, c ++ u) (low (e (a ++ u)).pass) r in
            let fits : length (c ++ u) ≤ turn = omega (arith, le, k) in
            let less : length (c ++ w) ≤ turns = omega (arith, ge, k, length-append c u, length-append a u, length-append c w, length-append a w) in
            kept_bind W u w (tail_of item sep turn (c ++ u)) (tail_of other sep turns (c ++ w)) (λ xs. pure (z ∷ xs)) (λ xs. pure (z ∷ xs)) (again c fits less) (λ y. low_pure (z ∷ y.0) y.1) (λ xs d r. alike (z ∷ xs) d) in
            rw (h, g, past_is sep (t ∷ (a ++ u)) h, past_is sep (t ∷ (a ++ w)) g)
            (kept_bind W u w (item (a ++ u)) (other (a ++ w)) (λ z. tail_of item sep turn >>= (λ xs. pure (z ∷ xs))) (λ z. tail_of other sep turns >>= (λ xs. pure (z ∷ xs))) (same_all lt a u w (e (a ++ u))) (low_more (tail_of item sep turn) (tails_form x F) (tails_pass item (λ i. (e i).pass) turn)) rest)

    pub list_exact : (W : Type 0) (item other : Parser V) → Exact W b item other F → Exact W b (list_of item sep) (list_of other sep) (joined_form x F)
    unfolding list_of more_of
    list_exact W item other e i =
        let more : (z : V) → Exact W b (λ j. with_front (z ∷ []) (tail_of item sep (turns j) j)) (λ j. with_front (z ∷ []) (tail_of other sep (turns j) j)) (tails_form x F) =
        λ z j. record {
          pass = pass_front b (tails_form x F) j (z ∷ []) (tail_of item sep (turns j) j) (tails_pass item (λ i. (e i).pass) (turns j) j);
          same = λ lt t a u w h. subst (λ k. Kept W u w (with_front (z ∷ []) (tail_of item sep (turns k) k)) (with_front (z ∷ []) (tail_of other sep (turns (t ∷ (a ++ w))) (t ∷ (a ++ w))))) (sym h)
              (kept_front W u w (z ∷ []) _ _ (kept_tails W item other e lt (length (t ∷ (a ++ u))) (length (t ∷ (a ++ w))) (t ∷ a) u w (omega arith) (omega arith)));
        } in
        let c = into W b (λ v. v.0 ∷ v.1) (λ v. refl) (λ n lt v f. f) (bind_at W b (e i) more) in
        record { pass = c.pass; same = c.same }

  -- what has a text takes a token
  pub shorter : ((x : F.Shape) → 0 < length (F.text x)) → (i : Tokens) (o : Outcome V) (y : V × Tokens) → Pass b F i o → o ≡ Ok y → length y.1 < length i
  shorter filled i o y p e = by (subst (λ z. Pass b F i z) e p)
    where
      by : Pass b F i (Ok y) → length y.1 < length i
      by (took y t) = omega (arith, passed_length i (F.text t.shape) (marks y.1) t.parts, marks_length y.1, filled t.shape)

  -- ---- as long as one begins

  module _ (filled : (x : F.Shape) → 0 < length (F.text x)) (begins : Tokens → Bool) (peeks : Peeks begins) where
    repeat_pass : (item : Parser V) → ((i : Tokens) → begins i ≡ true → Pass b F i (item i)) → (turn : ℕ) (i : Tokens) → Pass b (each_form F) i (repeat begins item turn i)
    unfolding repeat
    repeat_pass item p zero i = took ([], i) (record { shape = []; parts = refl; meets = λ n le lt. tt })
    repeat_pass item p (suc turn) i = by (λ j. repeat_pass item p turn j) (begins i) refl
      where
        by : ((j : Tokens) → Pass b (each_form F) j (repeat begins item turn j)) → (c : Bool) → begins i ≡ c → Pass b (each_form F) i (repeat begins item (suc turn) i)
        by again false h = rw h (took ([], i) (record { shape = []; parts = refl; meets = λ n le lt. tt }))
        by again true h = rw h (pass_into b (both F (each_form F)) (each_form F) i _ (λ v. v.0 ∷ v.1) (λ v. refl) (λ n lt v f. f) (more_pass item (repeat begins item turn) (each_form F) i (p i h) again))

    kept_repeat : (W : Type 0) (item other : Parser V) → ((i : Tokens) → begins i ≡ true → ExactAt W b item other F i) → 0 < b → (turn turns : ℕ) (a u w : Tokens) → length (a ++ u) ≤ turn → length (a ++ w) ≤ turns → Kept W u w (repeat begins item turn (a ++ u)) (repeat begins other turns (a ++ w))
    unfolding repeat
    kept_repeat W item other e lt turn turns [] u w le ge = beyond (repeat begins item turn u) (repeat begins other turns w) (low (repeat_pass item (λ i h. (e i h).pass) turn u))
    kept_repeat W item other e lt zero turns (t ∷ a) u w le ge = absurd (omega (arith, le))
    kept_repeat W item other e lt (suc turn) zero (t ∷ a) u w le ge = absurd (omega (arith, ge))
    kept_repeat W item other e lt (suc turn) (suc turns) (t ∷ a) u w le ge = by (λ c p q. kept_repeat W item other e lt turn turns c u w p q) (begins (t ∷ (a ++ u))) refl
      where
        by : ((c : Tokens) → length (c ++ u) ≤ turn → length (c ++ w) ≤ turns → Kept W u w (repeat begins item turn (c ++ u)) (repeat begins other turns (c ++ w))) → (c : Bool) → begins (t ∷ (a ++ u)) ≡ c → Kept W u w (repeat begins item (suc turn) (t ∷ (a ++ u))) (repeat begins other (suc turns) (t ∷ (a ++ w)))
        by again false h =
            let g : begins (t ∷ (a ++ w)) ≡ false = sym (peeks t (a ++ u) (a ++ w)) ∙ h in
            rw (h, g) (alike [] (t ∷ a))
        by again true h =
            let g : begins (t ∷ (a ++ w)) ≡ true = sym (peeks t (a ++ u) (a ++ w)) ∙ h in
            let rest : (z : V) (c : Tokens) → item (t ∷ (a ++ u)) ≡ Ok (z, c ++ u) → Kept W u w ((repeat begins item turn >>= (λ xs. pure (z ∷ xs))) (c ++ u)) ((repeat begins other turns >>= (λ xs. pure (z ∷ xs))) (c ++ w)) =
            λ z c r.
            let k = shorter filled (t ∷ (a ++ u)) (item (t ∷ (a ++ u))) (z, c ++ u) (e (t ∷ (a ++ u)) h).pass r in
            let fits : length (c ++ u) ≤ turn = omega (arith, le, k) in
            let less : length (c ++ w) ≤ turns = omega (arith, ge, k, length-append c u, length-append a u, length-append c w, length-append a w) in
            kept_bind W u w (repeat begins item turn (c ++ u)) (repeat begins other turns (c ++ w)) (λ xs. pure (z ∷ xs)) (λ xs. pure (z ∷ xs)) (again c fits less) (λ y. low_pure (z ∷ y.0) y.1) (λ xs d r. alike (z ∷ xs) d) in
            rw (h, g) (kept_bind W u w (item (t ∷ (a ++ u))) (other (t ∷ (a ++ w))) (λ z. repeat begins item turn >>= (λ xs. pure (z ∷ xs))) (λ z. repeat begins other turns >>= (λ xs. pure (z ∷ xs))) (same_all lt (t ∷ a) u w (e (t ∷ (a ++ u)) h)) (low_more (repeat begins item turn) (each_form F) (repeat_pass item (λ i h. (e i h).pass) turn)) rest)

    pub each_exact : (W : Type 0) (item other : Parser V) → ((i : Tokens) → begins i ≡ true → ExactAt W b item other F i) → Exact W b (each_of begins item) (each_of begins other) (each_form F)
    unfolding each_of
    each_exact W item other e i = record {
      pass = repeat_pass item (λ i h. (e i h).pass) (turns i) i;
      same = λ lt t a u w h. subst (λ k. Kept W u w (repeat begins item (turns k) k) (repeat begins other (turns (t ∷ (a ++ w))) (t ∷ (a ++ w)))) (sym h)
          (kept_repeat W item other e lt (length (t ∷ (a ++ u))) (length (t ∷ (a ++ w))) (t ∷ a) u w (omega arith) (omega arith));
    }

-- ---- what nests less deep than a bound

module _ {A : Type 0} (P : A → Type 0) (nesting_of : A → ℕ) (bound : ℕ) (positive : 0 < bound) where
  pub each_within : (xs : List A) → Each (λ x. P x × (nesting_of x < bound)) xs → Each P xs × (greatest nesting_of xs < bound)
  each_within [] f = (tt, positive)
  each_within (x ∷ xs) f = let r = each_within xs f.1 in ((f.0.0, r.0), omega (arith, f.0.1, r.1))

  pub written_within : (o : Option (List A)) → IfWritten (Each (λ x. P x × (nesting_of x < bound))) o → IfWritten (Each P) o × (optional_nesting (greatest nesting_of) o < bound)
  written_within None f = (tt, positive)
  written_within (Some xs) f = each_within xs f

  pub optional_within : (o : Option A) → IfWritten (λ x. P x × (nesting_of x < bound)) o → IfWritten P o × (optional_nesting nesting_of o < bound)
  optional_within None f = (tt, positive)
  optional_within (Some x) f = f
