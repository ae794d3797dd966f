-- Where a rule stops. What it has passed begins the text of one of its forms, and what begins alike
-- is read alike up to there, whatever stands behind.
use Rattle.std.proofs.Common.{◌≡◌, ℕ, zero, suc, ◌+◌, ◌≤◌, ◌<◌, Bool, true, false, cond, List, [], ◌∷◌, ◌++◌, length, Ok, Err, refl, ap, sym, ◌∙◌, subst, arith, append_assoc, length-append}
use Rattle.std.specs.Prelude.{⊤}
use Rattle.pz_syntax.specs.declared.tokens.Keyword.TheVariants as k
use Rattle.pz_syntax.specs.declared.tokens.Mark.{Mark}
use Rattle.pz_syntax.specs.declared.tokens.Pos.{Pos}
use Rattle.pz_syntax.specs.declared.tokens.Token.{Token}
use Rattle.pz_syntax.specs.declared.names.Id.{Id}
use Rattle.pz_syntax.specs.Marks.{keyword, head}
use Rattle.pz_parser_cursor.specs.declared.ahead.Next.{Next}
use Rattle.pz_parser_cursor.specs.declared.refusal.Refusal.{Refusal}
use Rattle.pz_parser_cursor.specs.declared.refusal.Refusal.TheVariants.{NoMemory, Syntax, TooNested}
use Rattle.pz_parser_cursor.specs.devices.LookAhead.{next}
use Rattle.pz_parser_cursor.specs.devices.Input.{Tokens, marks, after, position}
use Rattle.pz_parser_cursor.specs.devices.Device.{Outcome, Parser, ◌>>=◌, pure, refuse, peek, ask, and_then, deepen}

-- ---- forms

-- what a rule has: its shapes with their texts, and which of them nest less deep than a bound
pub record Form : Type 1 where
  pub Shape : Type 0
  pub text : Shape → List Mark
  pub Fits : ℕ → Shape → Type 0
  pub some : (n : ℕ) → 0 < n → (x : Shape) × Fits n x

abbrev pub nothing : Form
nothing = record { Shape = Unit {0}; text = λ x. []; Fits = λ n x. ⊤; some = λ n lt. (tt, tt) }

abbrev pub token_form : Mark → Form
token_form m = record { Shape = Unit {0}; text = λ x. m ∷ []; Fits = λ n x. ⊤; some = λ n lt. (tt, tt) }

-- the one behind the other
abbrev pub both : Form → Form → Form
both F G = record {
  Shape = F.Shape × G.Shape;
  text = λ x. F.text x.0 ++ G.text x.1;
  Fits = λ n x. F.Fits n x.0 × G.Fits n x.1;
  some = λ n lt. (((F.some n lt).0, (G.some n lt).0), ((F.some n lt).1, (G.some n lt).1));
}

-- ---- what was passed

-- it begins the text of a shape that nests less deep than the bound
pub record Begun (F : Form) (n : ℕ) (front : List Mark) : Type 0 where
  pub whole : F.Shape
  pub rest : List Mark
  pub meets : F.Fits n whole
  pub parts : F.text whole ≡ front ++ rest

-- The same of what is cut, whose constructs count from their first token on: of a call the name may
-- stand alone where `skip` may, its brackets count only where they stand.
pub data Front (F : Form) (n : ℕ) : List Mark → Type 0 where
  begun : (p : List Mark) → Begun F n p → Front F n p
  named : (p : List Mark) (x : Id) → Begun F n (p ++ keyword k.Skip ∷ []) → ((m : ℕ) → n < m → Begun F m (p ++ head x ∷ [])) → Front F n (p ++ head x ∷ [])

abbrev pub left : Refusal → ℕ
left NoMemory = 0
left (Syntax e) = e
left (TooNested e) = e

abbrev pub IsNested : Refusal → Type 0
IsNested (TooNested e) = ⊤
IsNested _ = ⊥

-- with one token more it begins a deeper shape
pub record Deeper (b : ℕ) (F : Form) (passed ahead : List Mark) : Type 0 where
  pub first : Mark
  pub others : List Mark
  pub parts : ahead ≡ first ∷ others
  pub plain : first.head ≡ false
  pub begins : (n : ℕ) → b < n → Front F n (passed ++ first ∷ [])

pub record Refused (b : ℕ) (F : Form) (i : Tokens) (r : Refusal) : Type 0 where
  pub passed : List Mark
  pub ahead : List Mark
  pub parts : marks i ≡ passed ++ ahead
  pub place : length ahead ≡ left r
  pub begins : (n : ℕ) → b ≤ n → 0 < n → Front F n passed
  pub deeper : IsNested r → Deeper b F passed ahead

pub record Taken (b : ℕ) (F : Form) (i j : Tokens) : Type 0 where
  pub shape : F.Shape
  pub parts : marks i ≡ F.text shape ++ marks j
  pub meets : (n : ℕ) → b ≤ n → 0 < n → F.Fits n shape

pub data Pass {V : Type 0} (b : ℕ) (F : Form) (i : Tokens) : Outcome V → Type 0 where
  took : (y : V × Tokens) → Taken b F i y.1 → Pass b F i (Ok y)
  stopped : (r : Refusal) → Refused b F i r → Pass b F i (Err r)

-- no more than so many tokens are left
pub data Low {V : Type 0} (n : ℕ) : Outcome V → Type 0 where
  low_ok : (y : V × Tokens) → length y.1 ≤ n → Low n (Ok y)
  low_err : (r : Refusal) → left r ≤ n → Low n (Err r)

-- What one reads before u and the other before w, where both begin alike. `W` holds where the other
-- may nest deeper.
pub data Kept {V : Type 0} (W : Type 0) (u w : Tokens) : Outcome V → Outcome V → Type 0 where
  beyond : (o p : Outcome V) → Low (length u) o → Kept W u w o p
  alike : (x : V) (c : Tokens) → Kept W u w (Ok (x, c ++ u)) (Ok (x, c ++ w))
  failing : (r e : Refusal) → Kept W u w (Err r) (Err e)
  wider : (r : Refusal) (p : Outcome V) → IsNested r → W → Kept W u w (Err r) p

pub record ExactAt {V : Type 0} (W : Type 0) (b : ℕ) (p q : Parser V) (F : Form) (i : Tokens) : Type 0 where
  pub pass : Pass b F i (p i)
  pub same : 0 < b → (t : Token) (a u w : Tokens) → i ≡ t ∷ (a ++ u) → Kept W u w (p i) (q (t ∷ (a ++ w)))

abbrev pub Exact : {V : Type 0} → Type 0 → ℕ → Parser V → Parser V → Form → Type 0
Exact W b p q F = (i : Tokens) → ExactAt W b p q F i

-- ---- how many tokens are left

pub marks_length : (i : Tokens) → length (marks i) ≡ length i
marks_length [] = refl
marks_length (t ∷ ts) = ap suc (marks_length ts)

pub passed_length : (i : Tokens) (a b : List Mark) → marks i ≡ a ++ b → length i ≡ length a + length b
passed_length i a b e = sym (marks_length i) ∙ ap length e ∙ length-append a b

pub low : {V : Type 0} {b : ℕ} {F : Form} {i : Tokens} {o : Outcome V} → Pass b F i o → Low (length i) o
low {F = F} {i = i} (took y t) = low_ok y (omega (arith, passed_length i (F.text t.shape) (marks y.1) t.parts, marks_length y.1))
low {i = i} (stopped r s) = low_err r (omega (arith, passed_length i s.passed s.ahead s.parts, s.place))

pub low_le : {V : Type 0} {o : Outcome V} (n m : ℕ) → n ≤ m → Low n o → Low m o
low_le n m le (low_ok y h) = low_ok y (omega (arith, le, h))
low_le n m le (low_err r h) = low_err r (omega (arith, le, h))

pub low_bind : {U V : Type 0} (n : ℕ) (o : Outcome V) (f : V → Parser U) → Low n o → ((y : V × Tokens) → Low (length y.1) (f y.0 y.1)) → Low n (and_then o f)
low_bind n _ f (low_ok y h) l = low_le (length y.1) n h (l y)
low_bind n _ f (low_err r h) l = low_err r h

-- ---- one behind the other

begun_first : (F G : Form) (n : ℕ) (p : List Mark) → 0 < n → Begun F n p → Begun (both F G) n p
begun_first F G n p lt f =
    let y = G.some n lt in
    record { whole = (f.whole, y.0); rest = f.rest ++ G.text y.0; meets = (f.meets, y.1); parts = ap (λ r. r ++ G.text y.0) f.parts ∙ append_assoc p f.rest (G.text y.0) }

front_first : (F G : Form) (n : ℕ) (p : List Mark) → 0 < n → Front F n p → Front (both F G) n p
front_first F G n _ lt (begun p f) = begun p (begun_first F G n p lt f)
front_first F G n _ lt (named p x f g) = named p x (begun_first F G n (p ++ keyword k.Skip ∷ []) lt f) (λ m le. begun_first F G m (p ++ head x ∷ []) (omega (arith, lt, le)) (g m le))

begun_second : (F G : Form) (n : ℕ) (x : F.Shape) (p : List Mark) → F.Fits n x → Begun G n p → Begun (both F G) n (F.text x ++ p)
begun_second F G n x p h f = record { whole = (x, f.whole); rest = f.rest; meets = (h, f.meets); parts = ap (λ r. F.text x ++ r) f.parts ∙ sym (append_assoc (F.text x) p f.rest) }

begun_as : (F : Form) (n : ℕ) (p q : List Mark) → p ≡ q → Begun F n p → Begun F n q
begun_as F n p q e f = record { whole = f.whole; rest = f.rest; meets = f.meets; parts = f.parts ∙ ap (λ z. z ++ f.rest) e }

pub front_as : (F : Form) (n : ℕ) (p q : List Mark) → p ≡ q → Front F n p → Front F n q
front_as F n p q e f = subst (λ z. Front F n z) e f

front_second : (F G : Form) (n : ℕ) (x : F.Shape) (p : List Mark) → ((m : ℕ) → n ≤ m → F.Fits m x) → Front G n p → Front (both F G) n (F.text x ++ p)
front_second F G n x _ h (begun p f) = begun (F.text x ++ p) (begun_second F G n x p (h n (omega arith)) f)
front_second F G n x _ h (named p y f g) = front_as (both F G) n ((F.text x ++ p) ++ head y ∷ []) (F.text x ++ (p ++ head y ∷ [])) (append_assoc (F.text x) p (head y ∷ []))
    (named (F.text x ++ p) y
    (begun_as (both F G) n (F.text x ++ (p ++ keyword k.Skip ∷ [])) ((F.text x ++ p) ++ keyword k.Skip ∷ []) (sym (append_assoc (F.text x) p (keyword k.Skip ∷ []))) (begun_second F G n x (p ++ keyword k.Skip ∷ []) (h n (omega arith)) f))
    (λ m le. begun_as (both F G) m (F.text x ++ (p ++ head y ∷ [])) ((F.text x ++ p) ++ head y ∷ []) (sym (append_assoc (F.text x) p (head y ∷ []))) (begun_second F G m x (p ++ head y ∷ []) (h m (omega (arith, le))) (g m le))))

refused_first : (b : ℕ) (F G : Form) (i : Tokens) (r : Refusal) → Refused b F i r → Refused b (both F G) i r
refused_first b F G i r s = record {
  passed = s.passed;
  ahead = s.ahead;
  parts = s.parts;
  place = s.place;
  begins = λ n le lt. front_first F G n s.passed lt (s.begins n le lt);
  deeper = λ h. let d = s.deeper h in record { first = d.first; others = d.others; parts = d.parts; plain = d.plain; begins = λ n lt. front_first F G n (s.passed ++ d.first ∷ []) (omega (arith, lt)) (d.begins n lt) };
}

refused_second : (b : ℕ) (F G : Form) (i j : Tokens) (r : Refusal) → Taken b F i j → Refused b G j r → Refused b (both F G) i r
refused_second b F G i j r t s = record {
  passed = F.text t.shape ++ s.passed;
  ahead = s.ahead;
  parts = t.parts ∙ ap (λ z. F.text t.shape ++ z) s.parts ∙ sym (append_assoc (F.text t.shape) s.passed s.ahead);
  place = s.place;
  begins = λ n le lt. front_second F G n t.shape s.passed (λ m more. t.meets m (omega (arith, le, more)) (omega (arith, lt, more))) (s.begins n le lt);
  deeper = λ h. let d = s.deeper h in record {
    first = d.first;
    others = d.others;
    parts = d.parts;
    plain = d.plain;
    begins = λ n lt. front_as (both F G) n (F.text t.shape ++ (s.passed ++ d.first ∷ [])) ((F.text t.shape ++ s.passed) ++ d.first ∷ []) (sym (append_assoc (F.text t.shape) s.passed (d.first ∷ []))) (front_second F G n t.shape (s.passed ++ d.first ∷ []) (λ m more. t.meets m (omega (arith, lt, more)) (omega (arith, lt, more))) (d.begins n lt));
  };
}

pub pass_second : {V : Type 0} (b : ℕ) (F G : Form) (i j : Tokens) (o : Outcome V) → Taken b F i j → Pass b G j o → Pass b (both F G) i o
pass_second b F G i j _ t (took y s) = took y (record {
  shape = (t.shape, s.shape);
  parts = t.parts ∙ ap (λ z. F.text t.shape ++ z) s.parts ∙ sym (append_assoc (F.text t.shape) (G.text s.shape) (marks y.1));
  meets = λ n le lt. (t.meets n le lt, s.meets n le lt);
})
pass_second b F G i j _ t (stopped r s) = stopped r (refused_second b F G i j r t s)

pub bind_pass : {U V : Type 0} (b : ℕ) (F G : Form) (i : Tokens) (o : Outcome V) (f : V → Parser U) → Pass b F i o → ((y : V × Tokens) → Pass b G y.1 (f y.0 y.1)) → Pass b (both F G) i (and_then o f)
bind_pass b F G i _ f (took y t) g = pass_second b F G i y.1 (f y.0 y.1) t (g y)
bind_pass b F G i _ f (stopped r s) g = stopped r (refused_first b F G i r s)

pub pass_mapped : {U V : Type 0} (b : ℕ) (F : Form) (i : Tokens) (o : Outcome V) (f : V → U) → Pass b F i o → Pass b F i (and_then o (λ v. pure (f v)))
pass_mapped b F i _ f (took y t) = took (f y.0, y.1) t
pass_mapped b F i _ f (stopped r s) = stopped r s

pub kept_bind : {U V : Type 0} (W : Type 0) (u w : Tokens) (o p : Outcome V) (f g : V → Parser U) → Kept W u w o p → ((y : V × Tokens) → Low (length y.1) (f y.0 y.1))
    → ((x : V) (c : Tokens) → o ≡ Ok (x, c ++ u) → Kept W u w (f x (c ++ u)) (g x (c ++ w))) → Kept W u w (and_then o f) (and_then p g)
kept_bind W u w o p f g (beyond _ _ h) l k = beyond _ _ (low_bind (length u) o f h l)
kept_bind W u w _ _ f g (alike x c) l k = k x c refl
kept_bind W u w _ _ f g (failing r e) l k = failing r e
kept_bind W u w _ p f g (wider r _ h x) l k = wider r (and_then p g) h x

-- also where nothing stands before u
pub same_all : {V : Type 0} {W : Type 0} {b : ℕ} {p q : Parser V} {F : Form} → 0 < b → (a u w : Tokens) → ExactAt W b p q F (a ++ u) → Kept W u w (p (a ++ u)) (q (a ++ w))
same_all {p = p} {q = q} lt [] u w e = beyond (p u) (q w) (low e.pass)
same_all lt (t ∷ a) u w e = e.same lt t a u w refl

pub pass_into : {V : Type 0} (b : ℕ) (F G : Form) (i : Tokens) (o : Outcome V) (h : F.Shape → G.Shape) → ((x : F.Shape) → G.text (h x) ≡ F.text x) → ((n : ℕ) → 0 < n → (x : F.Shape) → F.Fits n x → G.Fits n (h x)) → Pass b F i o → Pass b G i o
pass_into b F G i _ h texts fits (took y t) = took y (record { shape = h t.shape; parts = t.parts ∙ ap (λ z. z ++ marks y.1) (sym (texts t.shape)); meets = λ n le lt. fits n lt t.shape (t.meets n le lt) })
pass_into b F G i _ h texts fits (stopped r s) = stopped r (record {
  passed = s.passed;
  ahead = s.ahead;
  parts = s.parts;
  place = s.place;
  begins = λ n le lt. front n lt s.passed (s.begins n le lt);
  deeper = λ x. let d = s.deeper x in record { first = d.first; others = d.others; parts = d.parts; plain = d.plain; begins = λ n lt. front n (omega (arith, lt)) (s.passed ++ d.first ∷ []) (d.begins n lt) };
})
  where
    shaped : (n : ℕ) → 0 < n → (p : List Mark) → Begun F n p → Begun G n p
    shaped n lt p f = record { whole = h f.whole; rest = f.rest; meets = fits n lt f.whole f.meets; parts = texts f.whole ∙ f.parts }

    front : (n : ℕ) → 0 < n → (p : List Mark) → Front F n p → Front G n p
    front n lt _ (begun p f) = begun p (shaped n lt p f)
    front n lt _ (named p x f g) = named p x (shaped n lt (p ++ keyword k.Skip ∷ []) f) (λ m le. shaped m (omega (arith, le)) (p ++ head x ∷ []) (g m le))

module _ {V : Type 0} (W : Type 0) (b : ℕ) where
  -- ---- steps

  -- a value that goes into another shape
  pub into : {p q : Parser V} {F G : Form} {i : Tokens} (h : F.Shape → G.Shape) → ((x : F.Shape) → G.text (h x) ≡ F.text x) → ((n : ℕ) → 0 < n → (x : F.Shape) → F.Fits n x → G.Fits n (h x)) → ExactAt W b p q F i → ExactAt W b p q G i
  into {p = p} {F = F} {G = G} {i = i} h texts fits e = record { pass = pass_into b F G i (p i) h texts fits e.pass; same = e.same }

  pub pure_exact : (v : V) → Exact W b (pure v) (pure v) nothing
  pure_exact v i = record { pass = took (v, i) (record { shape = tt; parts = refl; meets = λ n le lt. tt }); same = λ lt t a u w h. subst (λ j. Kept W u w (Ok (v, j)) (Ok (v, t ∷ (a ++ w)))) (sym h) (alike v (t ∷ a)) }

module _ {U V : Type 0} (W : Type 0) (b : ℕ) where
  pub bind_at : {p q : Parser V} {f g : V → Parser U} {F G : Form} {i : Tokens} → ExactAt W b p q F i → ((x : V) → Exact W b (f x) (g x) G) → ExactAt W b (p >>= f) (q >>= g) (both F G) i
  bind_at {p = p} {q = q} {f = f} {g = g} {F = F} {G = G} {i = i} e c = record {
    pass = bind_pass b F G i (p i) f e.pass (λ y. (c y.0 y.1).pass);
    same = λ lt t a u w h. kept_bind W u w (p i) (q (t ∷ (a ++ w))) f g (e.same lt t a u w h) (λ y. low (c y.0 y.1).pass) (λ x d h. same_all lt d u w (c x (d ++ u)));
  }

  pub bind_exact : {p q : Parser V} {f g : V → Parser U} {F G : Form} → Exact W b p q F → ((x : V) → Exact W b (f x) (g x) G) → Exact W b (p >>= f) (q >>= g) (both F G)
  bind_exact e c i = let d = bind_at (e i) c in record { pass = d.pass; same = d.same }

  -- what was read, in another value
  pub mapped : {p q : Parser V} {F : Form} {i : Tokens} (f : V → U) → ExactAt W b p q F i → ExactAt W b (p >>= (λ v. pure (f v))) (q >>= (λ v. pure (f v))) F i
  mapped {p = p} {q = q} {F = F} {i = i} f e = record {
    pass = pass_mapped b F i (p i) f e.pass;
    same = λ lt t a u w h. kept_bind W u w (p i) (q (t ∷ (a ++ w))) (λ v. pure (f v)) (λ v. pure (f v)) (e.same lt t a u w h) (λ y. low_ok (f y.0, y.1) (omega arith)) (λ x d h. alike (f x) d);
  }

-- nothing is passed
pub refused_here : (b : ℕ) (F : Form) (i : Tokens) → Refused b F i (Syntax (length i))
refused_here b F i = record {
  passed = [];
  ahead = marks i;
  parts = refl;
  place = marks_length i;
  begins = λ n le lt. let x = F.some n lt in begun [] (record { whole = x.0; rest = F.text x.0; meets = x.1; parts = refl });
  deeper = λ h. absurd h;
}

-- what is seen of the first token alone
abbrev pub Peeks : {X : Type 0} → (Tokens → X) → Type 0
Peeks g = (t : Token) (u w : Tokens) → g (t ∷ u) ≡ g (t ∷ w)

module _ {V : Type 0} (W : Type 0) (b : ℕ) where
  pub refuse_exact : (F : Form) → Exact W b (let p : Parser V = refuse in p) refuse F
  refuse_exact F i = record { pass = stopped (Syntax (length i)) (refused_here b F i); same = λ lt t a u w h. failing (Syntax (length i)) (Syntax (length (t ∷ (a ++ w)))) }

  -- the next token is taken
  pub taking : (g : Tokens → V) (F : Form) (x : F.Shape) (i : Tokens) → Peeks g → marks i ≡ F.text x ++ marks (after i) → ((n : ℕ) → F.Fits n x) → ExactAt W b (λ j. Ok (g j, after j)) (λ j. Ok (g j, after j)) F i
  unfolding after
  taking g F x i peeks parts fits = record {
    pass = took (g i, after i) (record { shape = x; parts = parts; meets = λ n le lt. fits n });
    same = λ lt t a u w h. subst (λ j. Kept W u w (Ok (g j, after j)) (Ok (g (t ∷ (a ++ w)), a ++ w))) (sym h) (subst (λ v. Kept W u w (Ok (v, a ++ u)) (Ok (g (t ∷ (a ++ w)), a ++ w))) (peeks t (a ++ w) (a ++ u)) (alike (g (t ∷ (a ++ w))) a));
  }

  -- the next token is taken, and the rest is known
  kept_at : (p q : Parser V) (F : Form) (a u w j : Tokens) → 0 < b → j ≡ a ++ u → ExactAt W b p q F j → Kept W u w (p j) (q (a ++ w))
  kept_at p q F a u w j lt h e = subst (λ k. Kept W u w (p k) (q (a ++ w))) (sym h) (same_all lt a u w (subst (λ k. ExactAt W b p q F k) h e))

  choose : (c : Bool) (F : Form) (i : Tokens) (x y : Outcome V) → (c ≡ true → Pass b F i x) → (c ≡ false → Pass b F i y) → Pass b F i (cond c x y)
  choose true F i x y f g = f refl
  choose false F i x y f g = g refl

  choose_kept : (c d : Bool) (u w : Tokens) (x y z v : Outcome V) → c ≡ d → (c ≡ true → Kept W u w x z) → (c ≡ false → Kept W u w y v) → Kept W u w (cond c x y) (cond d z v)
  choose_kept true true u w x y z v e f g = f refl
  choose_kept false false u w x y z v e f g = g refl
  choose_kept true false u w x y z v e f g = absurd cc
  choose_kept false true u w x y z v e f g = absurd cc

  -- one of two, by what is seen of the first token
  pub if_at : (c : Tokens → Bool) (p q x y : Parser V) (F : Form) (i : Tokens) → Peeks c → (c i ≡ true → ExactAt W b p q F i) → (c i ≡ false → ExactAt W b x y F i) → ExactAt W b (λ j. cond (c j) (p j) (x j)) (λ j. cond (c j) (q j) (y j)) F i
  if_at c p q x y F i peeks f g = record {
    pass = choose (c i) F i (p i) (x i) (λ h. (f h).pass) (λ h. (g h).pass);
    same = λ lt t a u w h. choose_kept (c i) (c (t ∷ (a ++ w))) u w (p i) (x i) (q (t ∷ (a ++ w))) (y (t ∷ (a ++ w))) (ap c h ∙ peeks t (a ++ u) (a ++ w)) (λ z. (f z).same lt t a u w h) (λ z. (g z).same lt t a u w h);
  }

  -- one of two, by what is seen of the second token; each goes past the first
  pub second_at : (c : Tokens → Bool) (p q x y : Parser V) (F : Form) (i : Tokens) → Peeks c → (c (after i) ≡ true → ExactAt W b p q F i × Low (length (after i)) (p i)) → (c (after i) ≡ false → ExactAt W b x y F i × Low (length (after i)) (x i)) → ExactAt W b (λ j. cond (c (after j)) (p j) (x j)) (λ j. cond (c (after j)) (q j) (y j)) F i
  unfolding after
  second_at c p q x y F i peeks f g = record {
    pass = choose (c (after i)) F i (p i) (x i) (λ h. (f h).0.pass) (λ h. (g h).0.pass);
    same = by;
  }
    where
      low_if : (n : ℕ) (d : Bool) (o k : Outcome V) → (d ≡ true → Low n o) → (d ≡ false → Low n k) → Low n (cond d o k)
      low_if n true o k f g = f refl
      low_if n false o k f g = g refl

      by : 0 < b → (t : Token) (a u w : Tokens) → i ≡ t ∷ (a ++ u) → Kept W u w (cond (c (after i)) (p i) (x i)) (cond (c (a ++ w)) (q (t ∷ (a ++ w))) (y (t ∷ (a ++ w))))
      by lt t [] u w h = beyond _ _ (low_le (length (after i)) (length u) (let e = ap (λ j. length (after j)) h in omega (arith, e)) (low_if (length (after i)) (c (after i)) (p i) (x i) (λ z. (f z).1) (λ z. (g z).1)))
      by lt t (s ∷ a) u w h = choose_kept (c (after i)) (c (s ∷ (a ++ w))) u w (p i) (x i) (q (t ∷ s ∷ (a ++ w))) (y (t ∷ s ∷ (a ++ w))) (ap (λ j. c (after j)) h ∙ peeks s (a ++ u) (a ++ w)) (λ z. (f z).0.same lt t (s ∷ a) u w h) (λ z. (g z).0.same lt t (s ∷ a) u w h)

  -- one of many, by what comes next
  pub dispatch : (f g : Next → Parser V) (F : Form) → ((x : Next) (i : Tokens) → next i ≡ x → ExactAt W b (f x) (g x) F i) → Exact W b (peek >>= f) (peek >>= g) F
  unfolding next
  dispatch f g F at i = record {
    pass = (at (next i) i refl).pass;
    same = λ lt t a u w h. subst (λ x. Kept W u w (f (next i) i) (g x (t ∷ (a ++ w)))) (ap next h) ((at (next i) i refl).same lt t a u w h);
  }

  -- the place of the next token is asked for
  pub placed : (f g : Pos → Parser V) (F : Form) (i : Tokens) → ((x : Pos) → ExactAt W b (f x) (g x) F i) → ExactAt W b (ask position >>= f) (ask position >>= g) F i
  unfolding position
  placed f g F i at = record {
    pass = (at (position i)).pass;
    same = λ lt t a u w h. subst (λ x. Kept W u w (f (position i) i) (g x (t ∷ (a ++ w)))) (ap position h) ((at (position i)).same lt t a u w h);
  }

  -- a token opens one construct more
  pub opening : (d e : ℕ) (f g : Unit {0} → Parser V) (F G : Form) (m : Mark) (plain : m.head ≡ false) (h : F.Shape → G.Shape) (i : Tokens) → d ≤ e → (d < e → W) → ((x : F.Shape) → G.text (h x) ≡ m ∷ F.text x) → ((n : ℕ) → 0 < n → (x : F.Shape) → F.Fits n x → G.Fits (suc n) (h x))
      → Exact W d (f tt) (g tt) F → marks i ≡ m ∷ marks (after i) → ExactAt W (suc d) (deepen d >>= f) (deepen e >>= g) G i
  unfolding deepen after
  opening d e f g F G m plain h i le wide texts fits c parts = by d e le wide c
    where
      shaped : (n : ℕ) → 0 < n → (p : List Mark) → Begun F n p → Begun G (suc n) (m ∷ p)
      shaped n lt p f = record { whole = h f.whole; rest = f.rest; meets = fits n lt f.whole f.meets; parts = texts f.whole ∙ ap (λ z. m ∷ z) f.parts }

      further : (n : ℕ) → 0 < n → (p : List Mark) → ((k : ℕ) → n < k → Begun F k p) → (k : ℕ) → suc n < k → Begun G k (m ∷ p)
      further n lt p f zero le = absurd (omega (arith, le))
      further n lt p f (suc k) le = shaped k (omega (arith, le)) p (f k (omega (arith, le)))

      front : (n : ℕ) → 0 < n → (p : List Mark) → Front F n p → Front G (suc n) (m ∷ p)
      front n lt _ (begun p f) = begun (m ∷ p) (shaped n lt p f)
      front n lt _ (named p x f g) = named (m ∷ p) x (shaped n lt (p ++ keyword k.Skip ∷ []) f) (further n lt (p ++ head x ∷ []) g)

      inside : (d : ℕ) (r : Refusal) → Refused (suc d) F (after i) r → Refused (suc (suc d)) G i r
      inside d r s = record {
        passed = m ∷ s.passed;
        ahead = s.ahead;
        parts = parts ∙ ap (λ z. m ∷ z) s.parts;
        place = s.place;
        begins = begins;
        deeper = λ x. let k = s.deeper x in record { first = k.first; others = k.others; parts = k.parts; plain = k.plain; begins = deeper k.first (λ n. k.begins n) };
      }
        where
          begins : (n : ℕ) → suc (suc d) ≤ n → 0 < n → Front G n (m ∷ s.passed)
          begins zero le lt = absurd (omega (arith, lt))
          begins (suc n) le lt = front n (omega (arith, le)) s.passed (s.begins n (omega (arith, le)) (omega (arith, le)))

          deeper : (k : Mark) → ((n : ℕ) → suc d < n → Front F n (s.passed ++ k ∷ [])) → (n : ℕ) → suc (suc d) < n → Front G n (m ∷ (s.passed ++ k ∷ []))
          deeper k f zero lt = absurd (omega (arith, lt))
          deeper k f (suc n) lt = front n (omega (arith, lt)) (s.passed ++ k ∷ []) (f n (omega (arith, lt)))

      pass_inside : (d : ℕ) (o : Outcome V) → Pass (suc d) F (after i) o → Pass (suc (suc d)) G i o
      pass_inside d _ (took y t) = took y (record { shape = h t.shape; parts = parts ∙ ap (λ z. m ∷ z) t.parts ∙ ap (λ z. z ++ marks y.1) (sym (texts t.shape)); meets = meets })
        where
          meets : (n : ℕ) → suc (suc d) ≤ n → 0 < n → G.Fits n (h t.shape)
          meets zero le lt = absurd (omega (arith, le))
          meets (suc n) le lt = fits n (omega (arith, le)) t.shape (t.meets n (omega (arith, le)) (omega (arith, le)))
      pass_inside d _ (stopped r s) = stopped r (inside d r s)

      full : Refused 1 G i (TooNested (length i))
      full = record {
        passed = [];
        ahead = marks i;
        parts = refl;
        place = marks_length i;
        begins = λ n le lt. let x = G.some n lt in begun [] (record { whole = x.0; rest = G.text x.0; meets = x.1; parts = refl });
        deeper = λ x. record { first = m; others = marks (after i); parts = parts; plain = plain; begins = more };
      }
        where
          more : (n : ℕ) → 1 < n → Front G n (m ∷ [])
          more zero lt = absurd (omega (arith, lt))
          more (suc n) lt = let x = F.some n (omega (arith, lt)) in front n (omega (arith, lt)) [] (begun [] (record { whole = x.0; rest = F.text x.0; meets = x.1; parts = refl }))

      by : (d e : ℕ) → d ≤ e → (d < e → W) → Exact W d (f tt) (g tt) F → ExactAt W (suc d) (deepen d >>= f) (deepen e >>= g) G i
      by zero zero le wide c = record { pass = stopped (TooNested (length i)) full; same = λ lt t a u w h. failing (TooNested (length i)) (TooNested (length (t ∷ (a ++ w)))) }
      by zero (suc e) le wide c = record { pass = stopped (TooNested (length i)) full; same = λ lt t a u w h. wider (TooNested (length i)) (g tt (a ++ w)) tt (wide (omega arith)) }
      by (suc d) zero le wide c = absurd (omega (arith, le))
      by (suc d) (suc e) le wide c = record {
        pass = pass_inside d (f tt (after i)) (c (after i)).pass;
        same = λ lt t a u w h. subst (λ j. Kept W u w (f tt (after j)) (g tt (a ++ w))) (sym h) (same_all (omega arith) a u w (c (a ++ u)));
      }

module _ {U V : Type 0} (W : Type 0) (b : ℕ) where
  -- the next token is taken, and what stands behind it is known
  pub take_then : (g : Tokens → U) (f k : U → Parser V) (F G : Form) (x : F.Shape) (i : Tokens) → Peeks g → marks i ≡ F.text x ++ marks (after i) → ((n : ℕ) → F.Fits n x) → ((v : U) → ExactAt W b (f v) (k v) G (after i)) → ExactAt W b ((λ j. Ok (g j, after j)) >>= f) ((λ j. Ok (g j, after j)) >>= k) (both F G) i
  unfolding after
  take_then g f k F G x i peeks parts fits c = record {
    pass = pass_second b F G i (after i) (f (g i) (after i)) (record { shape = x; parts = parts; meets = λ n le lt. fits n }) (c (g i)).pass;
    same = λ lt t a u w h. subst (λ v. Kept W u w (f (g i) (after i)) (k v (a ++ w))) (ap g h ∙ peeks t (a ++ u) (a ++ w)) (kept_at W b (f (g i)) (k (g i)) G a u w (after i) lt (ap after h) (c (g i)));
  }

-- the same rules in other words
pub as_equal : {V : Type 0} (W : Type 0) (b : ℕ) (p q x y : Parser V) (F : Form) (i : Tokens) → ((j : Tokens) → x j ≡ p j) → ((j : Tokens) → y j ≡ q j) → ExactAt W b p q F i → ExactAt W b x y F i
as_equal W b p q x y F i f g e = record {
  pass = subst (λ o. Pass b F i o) (sym (f i)) e.pass;
  same = λ lt t a u w h. subst (λ o. Kept W u w o (y (t ∷ (a ++ w)))) (sym (f i)) (subst (λ o. Kept W u w (p i) o) (sym (g (t ∷ (a ++ w)))) (e.same lt t a u w h));
}

-- the rule that stands below the last depth is never reached
pub below_none : {V : Type 0} (W : Type 0) (q : Parser V) (F : Form) → Exact W 0 refuse q F
below_none W q F i = record { pass = stopped (Syntax (length i)) (refused_here 0 F i); same = λ lt t a u w h. absurd (omega (arith, lt)) }
