-- Pieces of text that have their heads, whatever follows.
use Rattle.std.proofs.Common.{◌≡◌, ℕ, suc, Bool, true, false, List, [], ◌∷◌, ◌++◌, map, Option, Some, None, refl, ap, ◌∙◌, append-nil}
use Rattle.pz_syntax.specs.declared.tokens.Symbol.{Symbol}
use Rattle.pz_syntax.specs.declared.tokens.Symbol.TheVariants as s
use Rattle.pz_syntax.specs.declared.tokens.Keyword.{Keyword}
use Rattle.pz_syntax.specs.declared.tokens.TokenKind.TheVariants as kind
use Rattle.pz_syntax.specs.declared.tokens.Mark.{Mark}
use Rattle.pz_syntax.specs.Marks.{symbol, keyword, in_parentheses, tail_separated, separated, each_text, optional, section}
use Rattle.pz_syntax.specs.ModelForm.{Each, IfWritten}
use Rattle.pz_syntax.specs.Heads.{Role, name, colon, opening, closing, other, role, behind_match, goes_on, makes_head, role_heads, heads}

abbrev pub roles : List Mark → List Role
roles = map (λ x. role x.kind)

abbrev pub marked_heads : List Mark → List Bool
marked_heads = map (λ x. x.head)

-- before what begins with neither `:` nor `(` it has its heads, and its round brackets match
pub record Marked (ms : List Mark) : Type 0 where
  pub balanced : (n : ℕ) (rest : List Role) → behind_match n (roles ms ++ rest) ≡ behind_match n rest
  pub marked : (rest : List Role) → goes_on rest ≡ false → role_heads (roles ms ++ rest) ≡ marked_heads ms ++ role_heads rest

-- it has its heads before anything
pub record Closed (ms : List Mark) : Type 0 where
  pub balanced : (n : ℕ) (rest : List Role) → behind_match n (roles ms ++ rest) ≡ behind_match n rest
  pub marked : (rest : List Role) → role_heads (roles ms ++ rest) ≡ marked_heads ms ++ role_heads rest

-- a name before it is no head
pub record Quiet (ms : List Mark) : Type 0 where
  pub quiet : (rest : List Role) → goes_on rest ≡ false → makes_head (roles ms ++ rest) ≡ false

-- it begins with neither `:` nor `(`
pub record Starts (ms : List Mark) : Type 0 where
  pub starts : (rest : List Role) → goes_on rest ≡ false → goes_on (roles ms ++ rest) ≡ false

-- a name before it is a head
pub record Makes (ms : List Mark) : Type 0 where
  pub makes : (rest : List Role) → makes_head (roles ms ++ rest) ≡ true

roles_append : (xs ys : List Mark) (rest : List Role) → roles (xs ++ ys) ++ rest ≡ roles xs ++ (roles ys ++ rest)
roles_append [] ys rest = refl
roles_append (x ∷ xs) ys rest = ap (λ l. role x.kind ∷ l) (roles_append xs ys rest)

heads_append : (xs ys : List Mark) (rest : List Bool) → marked_heads (xs ++ ys) ++ rest ≡ marked_heads xs ++ (marked_heads ys ++ rest)
heads_append [] ys rest = refl
heads_append (x ∷ xs) ys rest = ap (λ l. x.head ∷ l) (heads_append xs ys rest)

still : (rest : List Role) → goes_on rest ≡ false → makes_head rest ≡ false
still [] h = refl
still (name ∷ xs) h = refl
still (colon ∷ xs) h = h
still (opening ∷ xs) h = cc
still (closing ∷ xs) h = refl
still (other ∷ xs) h = refl

pub starts_quiet : {ms : List Mark} → Starts ms → Quiet ms
starts_quiet {ms} b = record { quiet = λ rest h. still (roles ms ++ rest) (b.starts rest h) }

pub no_marks : Marked []
no_marks = record { balanced = λ n rest. refl; marked = λ rest h. refl }

pub no_start : Starts []
no_start = record { starts = λ rest h. h }

-- a mark that is neither a name nor `:` nor a round bracket
pub plain : {ms : List Mark} (x : Mark) → role x.kind ≡ other → x.head ≡ false → Marked ms → Marked (x ∷ ms)
plain {ms} x r f m = record {
  balanced = λ n rest. rw r (m.balanced n rest);
  marked = λ rest h. rw (r, f) (ap (λ l. false ∷ l) (m.marked rest h));
}

-- a name that is no head
pub named : {ms : List Mark} (x : Mark) → role x.kind ≡ name → x.head ≡ false → Quiet ms → Marked ms → Marked (x ∷ ms)
named {ms} x r f q m = record {
  balanced = λ n rest. rw r (m.balanced n rest);
  marked = λ rest h. rw (r, f, q.quiet rest h) (ap (λ l. false ∷ l) (m.marked rest h));
}

-- a name that is a head
pub headed : {ms : List Mark} (x : Mark) → role x.kind ≡ name → x.head ≡ true → Makes ms → Marked ms → Marked (x ∷ ms)
headed {ms} x r f q m = record {
  balanced = λ n rest. rw r (m.balanced n rest);
  marked = λ rest h. rw (r, f, q.makes rest) (ap (λ l. true ∷ l) (m.marked rest h));
}

pub start : {ms : List Mark} (x : Mark) (r : Role) → role x.kind ≡ r → ((rest : List Role) → goes_on (r ∷ rest) ≡ false) → Starts (x ∷ ms)
start {ms} x r e f = record { starts = λ rest h. rw e (f (roles ms ++ rest)) }

pub joined : {xs ys : List Mark} → Marked xs → Marked ys → Starts ys → Marked (xs ++ ys)
joined {xs} {ys} m k b = record {
  balanced = λ n rest. rw (roles_append xs ys rest) (m.balanced n (roles ys ++ rest) ∙ k.balanced n rest);
  marked = λ rest h. rw (roles_append xs ys rest, heads_append xs ys (role_heads rest)) (m.marked (roles ys ++ rest) (b.starts rest h) ∙ ap (λ l. marked_heads xs ++ l) (k.marked rest h));
}

pub closed_joined : {xs ys : List Mark} → Closed xs → Marked ys → Marked (xs ++ ys)
closed_joined {xs} {ys} m k = record {
  balanced = λ n rest. rw (roles_append xs ys rest) (m.balanced n (roles ys ++ rest) ∙ k.balanced n rest);
  marked = λ rest h. rw (roles_append xs ys rest, heads_append xs ys (role_heads rest)) (m.marked (roles ys ++ rest) ∙ ap (λ l. marked_heads xs ++ l) (k.marked rest h));
}

pub joined_quiet : {xs ys : List Mark} → Quiet xs → Starts ys → Quiet (xs ++ ys)
joined_quiet {xs} {ys} q b = record { quiet = λ rest h. rw (roles_append xs ys rest) (q.quiet (roles ys ++ rest) (b.starts rest h)) }

pub joined_start : {xs ys : List Mark} → Starts xs → Starts ys → Starts (xs ++ ys)
joined_start {xs} {ys} b c = record { starts = λ rest h. rw (roles_append xs ys rest) (b.starts (roles ys ++ rest) (c.starts rest h)) }

-- round brackets
pub bracketed : {ms : List Mark} → Marked ms → Closed (symbol s.LeftParen ∷ (ms ++ symbol s.RightParen ∷ []))
bracketed {ms} m = record {
  balanced = λ n rest. rw (roles_append ms (symbol s.RightParen ∷ []) rest) (m.balanced (suc n) (closing ∷ rest));
  marked = λ rest. rw (roles_append ms (symbol s.RightParen ∷ []) rest, heads_append ms (symbol s.RightParen ∷ []) (role_heads rest)) (ap (λ l. false ∷ l) (m.marked (closing ∷ rest) refl));
}

-- bars
pub barred : {ms : List Mark} → Marked ms → Closed (symbol s.Bar ∷ (ms ++ symbol s.Bar ∷ []))
barred {ms} m = record {
  balanced = λ n rest. rw (roles_append ms (symbol s.Bar ∷ []) rest) (m.balanced n (other ∷ rest));
  marked = λ rest. rw (roles_append ms (symbol s.Bar ∷ []) rest, heads_append ms (symbol s.Bar ∷ []) (role_heads rest)) (ap (λ l. false ∷ l) (m.marked (other ∷ rest) refl));
}

pub closed_marked : {ms : List Mark} → Closed ms → Marked ms
closed_marked m = record { balanced = m.balanced; marked = λ rest h. m.marked rest }

pub bracketed_quiet : {ms : List Mark} → Marked ms → Quiet (symbol s.LeftParen ∷ (ms ++ symbol s.RightParen ∷ []))
bracketed_quiet {ms} m = record {
  quiet = λ rest h. rw (roles_append ms (symbol s.RightParen ∷ []) rest, m.balanced 0 (closing ∷ rest)) h;
}

-- round brackets before `:` or `(`
pub bracketed_makes : {ms : List Mark} (next : Mark) (rest : List Mark) → Marked ms → ((more : List Role) → goes_on (role next.kind ∷ more) ≡ true) → Makes (symbol s.LeftParen ∷ (ms ++ symbol s.RightParen ∷ next ∷ rest))
bracketed_makes {ms} next after m g = record {
  makes = λ rest. rw (roles_append ms (symbol s.RightParen ∷ next ∷ after) rest, m.balanced 0 (closing ∷ role next.kind ∷ (roles after ++ rest))) (g (roles after ++ rest));
}

pub colon_then : {ms : List Mark} → Marked ms → Marked (symbol s.Colon ∷ ms)
colon_then m = record {
  balanced = λ n rest. m.balanced n rest;
  marked = λ rest h. ap (λ l. false ∷ l) (m.marked rest h);
}

pub colon_makes : {ms : List Mark} → Makes (symbol s.Colon ∷ ms)
colon_makes = record { makes = λ rest. refl }

-- round brackets before what has its heads, also `:` or `(`
pub bracketed_then : {ms after : List Mark} → Marked ms → Marked after → Marked (symbol s.LeftParen ∷ (ms ++ symbol s.RightParen ∷ after))
bracketed_then {ms} {after} m k = record {
  balanced = λ n rest. rw (roles_append ms (symbol s.RightParen ∷ after) rest) (m.balanced (suc n) (closing ∷ (roles after ++ rest)) ∙ k.balanced n rest);
  marked = λ rest h. rw (roles_append ms (symbol s.RightParen ∷ after) rest, heads_append ms (symbol s.RightParen ∷ after) (role_heads rest)) (ap (λ l. false ∷ l) (m.marked (closing ∷ (roles after ++ rest)) refl ∙ ap (λ l. marked_heads ms ++ false ∷ l) (k.marked rest h)));
}

pub group_makes : {ms : List Mark} (next : Mark) (after : List Mark) → Marked ms → ((more : List Role) → goes_on (role next.kind ∷ more) ≡ true) → Makes (in_parentheses ms ++ next ∷ after)
group_makes {ms} next after m g = record {
  makes = λ rest. rw (roles_append (ms ++ symbol s.RightParen ∷ []) (next ∷ after) rest, roles_append ms (symbol s.RightParen ∷ []) (role next.kind ∷ (roles after ++ rest)), m.balanced 0 (closing ∷ role next.kind ∷ (roles after ++ rest))) (g (roles after ++ rest));
}

-- ---- lists of pieces

pub tail_separated_start : {A : Type 0} (text_of : A → List Mark) (separator : Symbol) → role (kind.Sym separator) ≡ other → (xs : List A) → Starts (tail_separated text_of separator xs)
tail_separated_start text_of separator e [] = no_start
tail_separated_start text_of separator e (x ∷ xs) = start (symbol separator) other e (λ rest. refl)

tail_separated_marked : {A : Type 0} (text_of : A → List Mark) (separator : Symbol) → role (kind.Sym separator) ≡ other → ((x : A) → Marked (text_of x)) → (xs : List A) → Marked (tail_separated text_of separator xs)
tail_separated_marked text_of separator e each [] = no_marks
tail_separated_marked text_of separator e each (x ∷ xs) = plain (symbol separator) e refl (joined (each x) (tail_separated_marked text_of separator e each xs) (tail_separated_start text_of separator e xs))

pub separated_marked : {A : Type 0} (text_of : A → List Mark) (separator : Symbol) → role (kind.Sym separator) ≡ other → ((x : A) → Marked (text_of x)) → (xs : List A) → Marked (separated text_of separator xs)
separated_marked text_of separator e each [] = no_marks
separated_marked text_of separator e each (x ∷ xs) = joined (each x) (tail_separated_marked text_of separator e each xs) (tail_separated_start text_of separator e xs)

each_start : {A : Type 0} (text_of : A → List Mark) → ((x : A) → Starts (text_of x)) → (xs : List A) → Starts (each_text text_of xs)
each_start text_of first [] = no_start
each_start text_of first (x ∷ xs) = joined_start (first x) (each_start text_of first xs)

pub each_marked : {A : Type 0} (P : A → Type 0) (text_of : A → List Mark) → ((x : A) → P x → Marked (text_of x)) → ((x : A) → Starts (text_of x)) → (xs : List A) → Each P xs → Marked (each_text text_of xs)
each_marked P text_of each first [] h = no_marks
each_marked P text_of each first (x ∷ xs) h = joined (each x h.0) (each_marked P text_of each first xs h.1) (each_start text_of first xs)

-- ---- what may be left out

pub optional_marked : {A : Type 0} (P : A → Type 0) (text_of : A → List Mark) → ((x : A) → P x → Marked (text_of x)) → (x : Option A) → IfWritten P x → Marked (optional text_of x)
optional_marked P text_of each None h = no_marks
optional_marked P text_of each (Some x) h = each x h

pub section_marked : {A : Type 0} (begin : Keyword) → role (kind.Key begin) ≡ other → (P : A → Type 0) (text_of : A → List Mark) → ((x : A) → P x → Marked (text_of x)) → (x : Option A) → IfWritten P x → Marked (section begin text_of x)
section_marked begin e P text_of each None h = no_marks
section_marked begin e P text_of each (Some x) h = plain (keyword begin) e refl (each x h)

pub section_start : {A : Type 0} (begin : Keyword) (r : Role) → role (kind.Key begin) ≡ r → ((rest : List Role) → goes_on (r ∷ rest) ≡ false) → (text_of : A → List Mark) (x : Option A) → Starts (section begin text_of x)
section_start begin r e f text_of None = no_start
section_start begin r e f text_of (Some x) = start (keyword begin) r e f

-- ---- whole texts

kinds_roles : (ms : List Mark) → map role (map (λ x. x.kind) ms) ≡ roles ms
kinds_roles [] = refl
kinds_roles (x ∷ xs) = ap (λ l. role x.kind ∷ l) (kinds_roles xs)

pub whole : (ms : List Mark) → Marked ms → heads (map (λ x. x.kind) ms) ≡ map (λ x. x.head) ms
whole ms m = rw (kinds_roles ms, ← append-nil (roles ms), m.marked [] refl) (append-nil (marked_heads ms))
