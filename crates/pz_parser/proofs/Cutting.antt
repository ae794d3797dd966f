-- What may stand of a text, against the fronts of whole texts: each front of a text may stand, and
-- what may stand is the front of a text that nests no deeper, but for the name of a call.
use Rattle.std.proofs.Common.{◌≡◌, ℕ, zero, suc, ◌≤◌, ◌⊎◌, inl, inr, List, [], ◌∷◌, ◌++◌, refl, ap, sym, ◌∙◌, subst, arith, append_assoc}
use Rattle.std.specs.Prelude.{⊤, max}
use Rattle.pz_syntax.specs.declared.tokens.Keyword.TheVariants as k
use Rattle.pz_syntax.specs.declared.tokens.Mark.{Mark}
use Rattle.pz_syntax.specs.declared.names.Id.{Id}
use Rattle.pz_syntax.specs.Marks.{keyword, head}
use Rattle.pz_parser.specs.CutParts.{Cuts, of_marks, part_then, construct}

-- ---- kinds of trees

pub record Kind : Type 1 where
  pub Shape : Type 0
  pub text : Shape → List Mark
  pub nesting : Shape → ℕ
  pub Is : Shape → Type 0
  pub cut : Shape → ℕ → List Mark → Type 0
  -- one without constructs
  pub some : Shape
  pub some_is : Is some
  pub some_flat : nesting some ≤ 0

abbrev pub marks : List Mark → Kind
marks ms = record { Shape = Unit {0}; text = λ x. ms; nesting = λ x. 0; Is = λ x. ⊤; cut = λ x. of_marks ms; some = tt; some_is = tt; some_flat = omega arith }

-- the one behind the other
abbrev pub both : Kind → Kind → Kind
both F G = record {
  Shape = F.Shape × G.Shape;
  text = λ x. F.text x.0 ++ G.text x.1;
  nesting = λ x. max (F.nesting x.0) (G.nesting x.1);
  Is = λ x. F.Is x.0 × G.Is x.1;
  cut = λ x. part_then (F.text x.0) (F.nesting x.0) (F.cut x.0) (G.cut x.1);
  some = (F.some, G.some);
  some_is = (F.some_is, G.some_is);
  some_flat = omega (arith, F.some_flat, G.some_flat);
}

-- ---- whole texts

-- the marks begin the text of a tree that nests no deeper
pub record Begun (K : Kind) (limit : ℕ) (p : List Mark) : Type 0 where
  pub whole : K.Shape
  pub rest : List Mark
  pub is : K.Is whole
  pub low : K.nesting whole ≤ limit
  pub parts : K.text whole ≡ p ++ rest

-- they end with the name of a call, in whose place `skip` may stand
pub record Named (K : Kind) (limit : ℕ) (p : List Mark) : Type 0 where
  pub front : List Mark
  pub name : Id
  pub parts : p ≡ front ++ head name ∷ []
  pub depth : ℕ
  pub begins : Begun K depth p
  pub skipped : Begun K limit (front ++ keyword k.Skip ∷ [])

abbrev pub Completes : Kind → ℕ → List Mark → Type 0
Completes K limit p = Begun K limit p ⊎ Named K limit p

-- What is known of the cuts of a tree: the fronts of its text stand, where `skip` stands the name of
-- a call may, and what stands is completed.
pub record Cutting (K : Kind) (x : K.Shape) : Type 0 where
  pub fronts : (limit : ℕ) (p rest : List Mark) → K.text x ≡ p ++ rest → K.nesting x ≤ limit → K.cut x limit p
  pub swaps : (limit : ℕ) (z : Id) (p rest : List Mark) → K.text x ≡ p ++ keyword k.Skip ∷ rest → K.nesting x ≤ limit → (y : K.Shape) × K.Is y × K.cut y limit (p ++ head z ∷ [])
  pub completes : (limit : ℕ) (p : List Mark) → K.cut x limit p → Completes K limit p

-- ---- lists of marks

-- a front of two texts is one of the first, or has it whole
pub split : (a b p rest : List Mark) → a ++ b ≡ p ++ rest → ((r : List Mark) × (a ≡ p ++ r)) ⊎ ((q : List Mark) × (p ≡ a ++ q) × (b ≡ q ++ rest))
split [] b p rest e = inr (p, refl, e)
split (x ∷ a) b [] rest e = inl (x ∷ a, refl)
split (x ∷ a) b (y ∷ p) rest e =
    let first : x ≡ y = cc in
    let others : a ++ b ≡ p ++ rest = cc in
    elim (split a b p rest others) [
      | inl h ↦ inl (h.0, ap (λ l. x ∷ l) h.1 ∙ ap (λ z. z ∷ (p ++ h.0)) first)
      | inr h ↦ inr (h.0, ap (λ l. y ∷ l) h.1 ∙ ap (λ z. z ∷ (a ++ h.0)) (sym first), h.2)
    ]

-- the same where a mark follows, which is then in one of the two
pub split_at : (a b p rest : List Mark) (m : Mark) → a ++ b ≡ p ++ m ∷ rest → ((r : List Mark) × (a ≡ p ++ m ∷ r)) ⊎ ((q : List Mark) × (p ≡ a ++ q) × (b ≡ q ++ m ∷ rest))
split_at [] b p rest m e = inr (p, refl, e)
split_at (x ∷ a) b [] rest m e = let first : x ≡ m = cc in inl (a, ap (λ z. z ∷ a) first)
split_at (x ∷ a) b (y ∷ p) rest m e =
    let first : x ≡ y = cc in
    let others : a ++ b ≡ p ++ m ∷ rest = cc in
    elim (split_at a b p rest m others) [
      | inl h ↦ inl (h.0, ap (λ l. x ∷ l) h.1 ∙ ap (λ z. z ∷ (p ++ m ∷ h.0)) first)
      | inr h ↦ inr (h.0, ap (λ l. y ∷ l) h.1 ∙ ap (λ z. z ∷ (a ++ h.0)) (sym first), h.2)
    ]

-- ---- marks

-- no `skip` among them
abbrev pub Plain : List Mark → Type 0
Plain ms = (p rest : List Mark) → ms ≡ p ++ keyword k.Skip ∷ rest → ⊥

pub cutting_marks : (ms : List Mark) → Plain ms → Cutting (marks ms) tt
cutting_marks ms plain = record {
  fronts = λ limit p rest e le. (rest, e);
  swaps = λ limit z p rest e le. absurd (plain p rest e);
  completes = λ limit p c. inl (record { whole = tt; rest = c.0; is = tt; low = omega arith; parts = c.1 });
}

-- ---- one behind the other

module _ (F G : Kind) where
  begun_first : (limit : ℕ) (p : List Mark) → Begun F limit p → Begun (both F G) limit p
  begun_first limit p f = record {
    whole = (f.whole, G.some);
    rest = f.rest ++ G.text G.some;
    is = (f.is, G.some_is);
    low = omega (arith, f.low, G.some_flat);
    parts = ap (λ z. z ++ G.text G.some) f.parts ∙ append_assoc p f.rest (G.text G.some);
  }

  begun_second : (limit : ℕ) (x : F.Shape) (p q : List Mark) → F.Is x → F.nesting x ≤ limit → p ≡ F.text x ++ q → Begun G limit q → Begun (both F G) limit p
  begun_second limit x p q is le e g = record {
    whole = (x, g.whole);
    rest = g.rest;
    is = (is, g.is);
    low = omega (arith, le, g.low);
    parts = ap (λ z. F.text x ++ z) g.parts ∙ sym (append_assoc (F.text x) q g.rest) ∙ ap (λ z. z ++ g.rest) (sym e);
  }

  completes_first : (limit : ℕ) (p : List Mark) → Completes F limit p → Completes (both F G) limit p
  completes_first limit p (inl f) = inl (begun_first limit p f)
  completes_first limit p (inr f) = inr (record {
    front = f.front;
    name = f.name;
    parts = f.parts;
    depth = f.depth;
    begins = begun_first f.depth p f.begins;
    skipped = begun_first limit (f.front ++ keyword k.Skip ∷ []) f.skipped;
  })

  completes_second : (limit : ℕ) (x : F.Shape) (p q : List Mark) → F.Is x → F.nesting x ≤ limit → p ≡ F.text x ++ q → Completes G limit q → Completes (both F G) limit p
  completes_second limit x p q is le e (inl g) = inl (begun_second limit x p q is le e g)
  completes_second limit x p q is le e (inr g) = inr (record {
    front = F.text x ++ g.front;
    name = g.name;
    parts = e ∙ ap (λ z. F.text x ++ z) g.parts ∙ sym (append_assoc (F.text x) g.front (head g.name ∷ []));
    depth = max limit g.depth;
    begins = begun_second (max limit g.depth) x p q is (omega (arith, le)) e (deeper g.depth (max limit g.depth) q (omega arith) g.begins);
    skipped = begun_second limit x ((F.text x ++ g.front) ++ keyword k.Skip ∷ []) (g.front ++ keyword k.Skip ∷ []) is le (append_assoc (F.text x) g.front (keyword k.Skip ∷ [])) g.skipped;
  })
    where
      deeper : (n m : ℕ) (p : List Mark) → n ≤ m → Begun G n p → Begun G m p
      deeper n m p le g = record { whole = g.whole; rest = g.rest; is = g.is; low = omega (arith, le, g.low); parts = g.parts }

  pub cutting_both : (x : F.Shape) (y : G.Shape) → F.Is x → G.Is y → Cutting F x → Cutting G y → Cutting (both F G) (x, y)
  cutting_both x y f g c d = record { fronts = fronts; swaps = swaps; completes = completes }
    where
      fronts : (limit : ℕ) (p rest : List Mark) → F.text x ++ G.text y ≡ p ++ rest → max (F.nesting x) (G.nesting y) ≤ limit → (both F G).cut (x, y) limit p
      fronts limit p rest e le = elim (split (F.text x) (G.text y) p rest e) [
        | inl h ↦ inl (c.fronts limit p h.0 h.1 (omega (arith, le)))
        | inr h ↦ inr (h.0, h.1, omega (arith, le), d.fronts limit h.0 rest h.2 (omega (arith, le)))
      ]

      swaps : (limit : ℕ) (z : Id) (p rest : List Mark) → F.text x ++ G.text y ≡ p ++ keyword k.Skip ∷ rest → max (F.nesting x) (G.nesting y) ≤ limit → (v : (both F G).Shape) × (both F G).Is v × (both F G).cut v limit (p ++ head z ∷ [])
      swaps limit z p rest e le = elim (split_at (F.text x) (G.text y) p rest (keyword k.Skip) e) [
        | inl h ↦ let s = c.swaps limit z p h.0 h.1 (omega (arith, le)) in ((s.0, y), (s.1, g), inl s.2)
        | inr h ↦ let s = d.swaps limit z h.0 rest h.2 (omega (arith, le)) in ((x, s.0), (f, s.1), inr (h.0 ++ head z ∷ [], ap (λ l. l ++ head z ∷ []) h.1 ∙ append_assoc (F.text x) h.0 (head z ∷ []), omega (arith, le), s.2))
      ]

      completes : (limit : ℕ) (p : List Mark) → (both F G).cut (x, y) limit p → Completes (both F G) limit p
      completes limit p (inl h) = completes_first limit p (c.completes limit p h)
      completes limit p (inr h) = completes_second limit x p h.0 f h.2 h.1 (d.completes limit h.0 h.3)

-- ---- in another shape

pub in_construct : (C : Cuts) (limit : ℕ) (p : List Mark) (m : Mark) → C limit (p ++ m ∷ []) → construct C (suc limit) (p ++ m ∷ [])
in_construct C limit [] m c = c
in_construct C limit (x ∷ p) m c = c

module _ (F G : Kind) (h : F.Shape → G.Shape) (texts : (y : F.Shape) → G.text (h y) ≡ F.text y) (fits : (y : F.Shape) → F.Is y → G.Is (h y)) where
  module _ (nests : (y : F.Shape) → G.nesting (h y) ≡ F.nesting y) where
    begun_into : (limit : ℕ) (p : List Mark) → Begun F limit p → Begun G limit p
    begun_into limit p f = record { whole = h f.whole; rest = f.rest; is = fits f.whole f.is; low = let n = nests f.whole in omega (arith, f.low, n); parts = texts f.whole ∙ f.parts }

    completes_into : (limit : ℕ) (p : List Mark) → Completes F limit p → Completes G limit p
    completes_into limit p (inl f) = inl (begun_into limit p f)
    completes_into limit p (inr f) = inr (record { front = f.front; name = f.name; parts = f.parts; depth = f.depth; begins = begun_into f.depth p f.begins; skipped = begun_into limit (f.front ++ keyword k.Skip ∷ []) f.skipped })

    pub cutting_into : (goes : (y : F.Shape) (limit : ℕ) (p : List Mark) → F.cut y limit p → G.cut (h y) limit p) (x : F.Shape) → ((limit : ℕ) (p : List Mark) → G.cut (h x) limit p → F.cut x limit p) → Cutting F x → Cutting G (h x)
    cutting_into goes x back c = record {
      fronts = λ limit p rest e le. goes x limit p (c.fronts limit p rest (sym (texts x) ∙ e) (let n = nests x in omega (arith, le, n)));
      swaps = λ limit z p rest e le. let s = c.swaps limit z p rest (sym (texts x) ∙ e) (let n = nests x in omega (arith, le, n)) in (h s.0, fits s.0 s.1, goes s.0 limit (p ++ head z ∷ []) s.2);
      completes = λ limit p d. completes_into limit p (c.completes limit p (back limit p d));
    }

  -- as a construct
  module _ (nests : (y : F.Shape) → G.nesting (h y) ≡ suc (F.nesting y)) where
    begun_deeper : (limit : ℕ) (p : List Mark) → Begun F limit p → Begun G (suc limit) p
    begun_deeper limit p f = record { whole = h f.whole; rest = f.rest; is = fits f.whole f.is; low = let n = nests f.whole in omega (arith, f.low, n); parts = texts f.whole ∙ f.parts }

    completes_deeper : (limit : ℕ) (p : List Mark) → Completes F limit p → Completes G (suc limit) p
    completes_deeper limit p (inl f) = inl (begun_deeper limit p f)
    completes_deeper limit p (inr f) = inr (record { front = f.front; name = f.name; parts = f.parts; depth = suc f.depth; begins = begun_deeper f.depth p f.begins; skipped = begun_deeper limit (f.front ++ keyword k.Skip ∷ []) f.skipped })

    pub cutting_construct : (goes : (y : F.Shape) (limit : ℕ) (p : List Mark) → construct (F.cut y) limit p → G.cut (h y) limit p) (x : F.Shape) → ((limit : ℕ) (p : List Mark) → G.cut (h x) limit p → construct (F.cut x) limit p) → Cutting F x → Cutting G (h x)
    cutting_construct goes x back c = record {
      fronts = λ limit p rest e le. goes x limit p (fronts limit p rest (sym (texts x) ∙ e) (let n = nests x in omega (arith, le, n)));
      swaps = swaps;
      completes = λ limit p d. completes limit p (back limit p d);
    }
      where
        fronts : (limit : ℕ) (p rest : List Mark) → F.text x ≡ p ++ rest → suc (F.nesting x) ≤ limit → construct (F.cut x) limit p
        fronts limit [] rest e le = tt
        fronts zero (m ∷ p) rest e le = absurd (omega (arith, le))
        fronts (suc limit) (m ∷ p) rest e le = c.fronts limit (m ∷ p) rest e (omega (arith, le))

        swaps : (limit : ℕ) (z : Id) (p rest : List Mark) → G.text (h x) ≡ p ++ keyword k.Skip ∷ rest → G.nesting (h x) ≤ limit → (y : G.Shape) × G.Is y × G.cut y limit (p ++ head z ∷ [])
        swaps zero z p rest e le = absurd (let n = nests x in omega (arith, le, n))
        swaps (suc limit) z p rest e le = let s = c.swaps limit z p rest (sym (texts x) ∙ e) (let n = nests x in omega (arith, le, n)) in (h s.0, fits s.0 s.1, goes s.0 (suc limit) (p ++ head z ∷ []) (in_construct (F.cut s.0) limit p (head z) s.2))

        completes : (limit : ℕ) (p : List Mark) → construct (F.cut x) limit p → Completes G limit p
        completes limit [] d = inl (record { whole = G.some; rest = G.text G.some; is = G.some_is; low = let s = G.some_flat in omega (arith, s); parts = refl })
        completes zero (m ∷ p) d = absurd d
        completes (suc limit) (m ∷ p) d = completes_deeper limit (m ∷ p) (c.completes limit (m ∷ p) d)
