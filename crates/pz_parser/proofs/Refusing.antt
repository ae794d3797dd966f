-- Where a model is refused, and as what.
use Rattle.std.proofs.Common.{◌≡◌, ◌≢◌, ℕ, zero, suc, ◌-◌, ◌≤◌, ◌<◌, ◌⊎◌, inl, inr, true, false, List, [], ◌∷◌, ◌++◌, length, take, drop, Ok, Err, refl, ap, sym, ◌∙◌, subst, arith, append_assoc, length-append}
use Rattle.pz_syntax.specs.declared.tokens.Pos.{Pos}
use Rattle.pz_syntax.specs.declared.tokens.Keyword.TheVariants as k
use Rattle.pz_syntax.specs.declared.tokens.Mark.{Mark}
use Rattle.pz_syntax.specs.declared.tokens.Token.{Token}
use Rattle.pz_syntax.specs.Marks.{keyword, head}
use Rattle.pz_syntax.specs.ModelText.{text}
use Rattle.pz_syntax.specs.ExpressionErasure.{origin}
use Rattle.pz_parser_cursor.specs.declared.refusal.Refusal.{Refusal}
use Rattle.pz_parser_cursor.specs.declared.refusal.Refusal.TheVariants as refusal
use Rattle.pz_parser_cursor.specs.devices.Input.{Tokens, marks}
use Rattle.pz_parser_cursor.specs.devices.Device.{Outcome}
use Rattle.pz_parser_cursor.specs.Places.{located, positions}
use Rattle.pz_parser_cursor.proofs.Reading.{marks_located}
use Rattle.pz_parser.specs.devices.Models as spec
use Rattle.pz_parser.specs.ModelPlaces.{place_model}
use Rattle.pz_parser.specs.devices.Refused.{first_or, place_left, error_of}
use Rattle.pz_parser.specs.Cuts.{IsCut, Passes, first_place, Refuses}
use Rattle.pz_parser.specs.devices.Beginnings.{Begins, IsBegun}
use Rattle.pz_parser.proofs.CutTexts.{cut_from, begun_from}
use Rattle.pz_parser.proofs.ModelRules.{model_complete}
use Rattle.pz_parser.proofs.StoppingModels.{model_form, model_exact}
use Rattle.pz_parser_cursor.proofs.Stopping.{Form, Front, begun, named, left, IsNested, Refused, Pass, stopped, low_err, Kept, beyond, wider, marks_length, passed_length}

-- ---- cut texts

cut_of : (limit : ℕ) (p : List Mark) → Front model_form (suc limit) p → IsBegun limit p
cut_of limit _ (begun p f) = inl (f.whole, f.rest, f.meets.0, omega (arith, f.meets.1), f.parts)
cut_of limit _ (named p x f g) = let h = g (suc (suc limit)) (omega arith) in inr (p, x, refl, (suc limit, (h.whole, h.rest, h.meets.0, omega (arith, h.meets.1), h.parts)), (f.whole, f.rest, f.meets.0, omega (arith, f.meets.1), f.parts))

begins_less : (limit : ℕ) (p q : List Mark) → Begins limit (p ++ q) → Begins limit p
begins_less limit p q b = (b.0, q ++ b.1, b.2, b.3, b.4 ∙ append_assoc p q b.1)

begins_as : (limit : ℕ) (p q : List Mark) → p ≡ q → Begins limit p → Begins limit q
begins_as limit p q e b = subst (Begins limit) e b

-- of a list with one mark more a front is the whole or a front of the list
one_more : (f p q : List Mark) (m : Mark) → f ++ m ∷ [] ≡ p ++ q → (q ≡ []) ⊎ ((r : List Mark) × (f ≡ p ++ r))
one_more [] [] q m e = inr ([], refl)
one_more [] (x ∷ []) q m e = inl (let h : [] ≡ q = cc in sym h)
one_more [] (x ∷ y ∷ p) q m e = absurd cc
one_more (z ∷ f) [] q m e = inr (z ∷ f, refl)
one_more (z ∷ f) (x ∷ p) q m e =
    let first : z ≡ x = cc in
    let rest : f ++ m ∷ [] ≡ p ++ q = cc in
    elim (one_more f p q m rest) [
      | inl h ↦ inl h
      | inr h ↦ inr (h.0, ap (λ l. z ∷ l) h.1 ∙ ap (λ y. y ∷ (p ++ h.0)) first)
    ]

append_none : (p : List Mark) → p ++ [] ≡ p
append_none [] = refl
append_none (x ∷ p) = ap (λ l. x ∷ l) (append_none p)

-- what is cut may be cut before
cut_less : (limit : ℕ) (p q : List Mark) → IsBegun limit (p ++ q) → IsBegun limit p
cut_less limit p q (inl b) = inl (begins_less limit p q b)
cut_less limit p q (inr c) = elim (one_more c.0 p q (head c.1) (sym c.2)) [
  | inl h ↦ let e : p ++ q ≡ p = ap (λ z. p ++ z) h ∙ append_none p in inr (c.0, c.1, sym e ∙ c.2, (c.3.0, begins_as c.3.0 (p ++ q) p e c.3.1), c.4)
  | inr h ↦ inl (begins_less limit p (h.0 ++ keyword k.Skip ∷ []) (begins_as limit (c.0 ++ keyword k.Skip ∷ []) (p ++ (h.0 ++ keyword k.Skip ∷ [])) (ap (λ z. z ++ keyword k.Skip ∷ []) h.1 ∙ append_assoc p h.0 (keyword k.Skip ∷ [])) c.4))
]

last_is : (p q : List Mark) (x y : Mark) → p ++ x ∷ [] ≡ q ++ y ∷ [] → x ≡ y
last_is [] [] x y e = cc
last_is [] (z ∷ []) x y e = absurd cc
last_is [] (z ∷ v ∷ q) x y e = absurd cc
last_is (z ∷ []) [] x y e = absurd cc
last_is (z ∷ v ∷ p) [] x y e = absurd cc
last_is (z ∷ p) (v ∷ q) x y e = last_is p q x y cc

-- ---- fronts of lists

take_front : (a b : List Mark) (n : ℕ) → n ≤ length a → (r : List Mark) × (a ≡ take n (a ++ b) ++ r)
take_front a b zero le = (a, refl)
take_front [] b (suc n) le = absurd (omega (arith, le))
take_front (x ∷ a) b (suc n) le = let h = take_front a b n (omega (arith, le)) in (h.0, ap (λ l. x ∷ l) h.1)

take_one : (a b : List Mark) (m : Mark) → take (suc (length a)) (a ++ m ∷ b) ≡ a ++ m ∷ []
take_one [] b m = refl
take_one (x ∷ a) b m = ap (λ l. x ∷ l) (take_one a b m)

-- tokens that have these marks in front
split_tokens : (p : List Mark) (m : Mark) (q : List Mark) (i : Tokens) → marks i ≡ p ++ m ∷ q → (t : Token) × (a : Tokens) × (u : Tokens) × (i ≡ t ∷ (a ++ u)) × (marks (t ∷ a) ≡ p ++ m ∷ []) × (marks u ≡ q)
split_tokens [] m q [] e = absurd cc
split_tokens [] m q (t ∷ ts) e = let f : t.mark ≡ m = cc in let g : marks ts ≡ q = cc in (t, [], ts, refl, ap (λ z. z ∷ []) f, g)
split_tokens (x ∷ p) m q [] e = absurd cc
split_tokens (x ∷ p) m q (t ∷ ts) e =
    let f : t.mark ≡ x = cc in
    let g : marks ts ≡ p ++ m ∷ q = cc in
    let r = split_tokens p m q ts g in
    (t, r.0 ∷ r.1, r.2, ap (λ l. t ∷ l) r.3, ap (λ z. z ∷ marks (r.0 ∷ r.1)) f ∙ ap (λ l. x ∷ l) r.4, r.5)

marks_append : (a b : Tokens) → marks (a ++ b) ≡ marks a ++ marks b
marks_append [] b = refl
marks_append (t ∷ a) b = ap (λ l. t.mark ∷ l) (marks_append a b)

kept_refuse : {V : Type 0} (W : Type 0) (u w : Tokens) (r : Refusal) (y : V × Tokens) → Kept W u w (Err r) (Ok y) → (left r ≤ length u) ⊎ (IsNested r × W)
kept_refuse W u w r y (beyond _ _ (low_err _ h)) = inl h
kept_refuse W u w r y (wider _ _ h x) = inr (h, x)

refused_of : {V : Type 0} (b : ℕ) (F : Form) (i : Tokens) (r : Refusal) (o : Outcome V) → Pass b F i o → o ≡ Err r → Refused b F i r
refused_of {V = V} b F i r o p e = by (subst (λ z. Pass b F i z) e p)
  where
    by : Pass {V = V} b F i (Err r) → Refused b F i r
    by (stopped _ s) = s

-- ---- one token more

module _ (limit : ℕ) (i : Tokens) (r : Refusal) (e : spec.model limit i ≡ Err r) (p : List Mark) (m : Mark) (q : List Mark) (parts : marks i ≡ p ++ m ∷ q) (place : suc (length q) ≡ left r) where
  -- a deeper model may begin so, where the refusal is of depth
  deeper_at : (depth : ℕ) → limit ≤ depth → Begins depth (p ++ m ∷ []) → IsNested r × (limit < depth)
  deeper_at depth le f =
      let c = split_tokens p m q i parts in
      let w = located (λ n. origin) 0 f.1 in
      let whole : marks (c.0 ∷ (c.1 ++ w)) ≡ text f.0 = marks_append (c.0 ∷ c.1) w ∙ ap (λ z. z ++ marks w) c.4 ∙ ap (λ z. (p ++ m ∷ []) ++ z) (marks_located (λ n. origin) 0 f.1) ∙ sym f.4 in
      let read = model_complete depth (c.0 ∷ (c.1 ++ w)) f.0 (f.2, omega (arith, f.3)) whole in
      let kept = (model_exact (limit < depth) limit depth le (λ lt. lt) i).same (omega arith) c.0 c.1 c.2 w c.3 in
      let read_one = kept_refuse (limit < depth) c.2 w r (place_model (positions (c.0 ∷ (c.1 ++ w))) 0 f.0, []) (subst (λ o. Kept (limit < depth) c.2 w (Err r) o) read (subst (λ o. Kept (limit < depth) c.2 w o (spec.model depth (c.0 ∷ (c.1 ++ w)))) e kept)) in
      elim read_one [
        | inl h ↦ absurd (let l = ap length c.5 in omega (arith, h, place, l, marks_length c.2))
        | inr h ↦ h
      ]

  begins_at : (depth : ℕ) → Begins depth (p ++ m ∷ []) → IsNested r × (limit < depth)
  begins_at depth f = elim (le_or_lt limit depth) [
    | inl le ↦ deeper_at depth le f
    | inr lt ↦ absurd (let h = (deeper_at limit (omega arith) (f.0, f.1, f.2, omega (arith, lt, f.3), f.4)).1 in omega (arith, h))
  ]
    where
      le_or_lt : (a b : ℕ) → (a ≤ b) ⊎ (b < a)
      le_or_lt zero b = inl (omega arith)
      le_or_lt (suc a) zero = inr (omega arith)
      le_or_lt (suc a) (suc b) = elim (le_or_lt a b) [
        | inl h ↦ inl (omega (arith, h))
        | inr h ↦ inr (omega (arith, h))
      ]

  -- whatever the depth, only a refusal of depth
  nested_at : (depth : ℕ) → IsBegun depth (p ++ m ∷ []) → IsNested r
  nested_at depth (inl f) = (begins_at depth f).0
  nested_at depth (inr f) = (begins_at f.3.0 f.3.1).0

  -- the token of a refusal of depth is no name
  not_cut : (IsNested r → m.head ≡ false) → IsBegun limit (p ++ m ∷ []) → ⊥
  not_cut plain (inl f) = let h = (begins_at limit f).1 in absurd (omega (arith, h))
  not_cut plain (inr f) =
      let a = plain (begins_at f.3.0 f.3.1).0 in
      let same = last_is p f.0 m (head f.1) f.2 in
      let g : true ≡ false = ap (λ (z : Mark). z.head) (sym same) ∙ a in
      absurd cc

-- ---- the refusal

module _ (limit : ℕ) (i : Tokens) (r : Refusal) (e : spec.model limit i ≡ Err r) where
  stop : Refused (suc limit) model_form i r
  stop = refused_of (suc limit) model_form i r (spec.model limit i) (model_exact ⊥ limit limit (omega arith) (λ lt. absurd (omega (arith, lt))) i).pass e

  fewer_cut : (a b : List Mark) → marks i ≡ a ++ b → IsBegun limit a → (n : ℕ) → n ≤ length a → IsCut limit (take n (marks i))
  fewer_cut a b parts cut n le =
      let t = take_front a b n le in
      subst (λ z. IsCut limit (take n z)) (sym parts) (cut_from limit (take n (a ++ b)) (cut_less limit (take n (a ++ b)) t.0 (subst (IsBegun limit) t.1 cut)))

  within : (a b : List Mark) → marks i ≡ a ++ b → length a ≤ length (marks i)
  within a b parts = let l = ap length parts in omega (arith, l, length-append a b)

  passes_by : (a b : List Mark) → marks i ≡ a ++ b → length b ≡ left r → IsBegun limit a → (IsNested r → (m : Mark) (q : List Mark) → b ≡ m ∷ q → m.head ≡ false) → Passes limit (marks i) (length a)
  passes_by a [] parts place cut plain = (within a [] parts, fewer_cut a [] parts cut, λ lt c. absurd (let l = ap length parts in omega (arith, lt, l, length-append a [])))
  passes_by a (m ∷ q) parts place cut plain = (within a (m ∷ q) parts, fewer_cut a (m ∷ q) parts cut, λ lt c. not_cut limit i r e a m q parts place (λ h. plain h m q refl) (begun_from limit (a ++ m ∷ []) (subst (IsCut limit) (ap (take (suc (length a))) parts ∙ take_one a q m) c)))

  nested_by : (a b : List Mark) → marks i ≡ a ++ b → length b ≡ left r → (depth : ℕ) → length a < length i → IsCut depth (take (suc (length a)) (marks i)) → IsNested r
  nested_by a [] parts place depth lt c = absurd (let l = ap length parts in omega (arith, lt, l, length-append a [], marks_length i))
  nested_by a (m ∷ q) parts place depth lt c = nested_at limit i r e a m q parts place depth (begun_from depth (a ++ m ∷ []) (subst (IsCut depth) (ap (take (suc (length a))) parts ∙ take_one a q m) c))

  stop_cut : IsBegun limit stop.passed
  unfolding stop
  stop_cut = cut_of limit stop.passed (stop.begins (suc limit) (omega arith) (omega arith))

  place_is : (end : Pos) → first_or end (drop (length i - left r) i) ≡ first_place end (drop (length stop.passed) i)
  place_is end = let n : length i - left r ≡ length stop.passed = omega (arith, passed_length i stop.passed stop.ahead stop.parts, stop.place) in ap (λ z. first_or end (drop z i)) n ∙ first_is end (drop (length stop.passed) i)
    where
      first_is : (end : Pos) (ts : Tokens) → first_or end ts ≡ first_place end ts
      first_is end [] = refl
      first_is end (t ∷ ts) = refl

pub refuses : (limit : ℕ) (i : Tokens) (end : Pos) (r : Refusal) → (r ≢ refusal.NoMemory → spec.model limit i ≡ Err r) → Refuses limit i end (error_of i end r)
unfolding place_left
refuses limit i end refusal.NoMemory e = tt
refuses limit i end (refusal.Syntax n) f =
    let r = refusal.Syntax n in
    let e = f (λ h. absurd cc) in
    let s = stop limit i r e in
    (length s.passed, passes_by limit i r e s.passed s.ahead s.parts s.place (stop_cut limit i r e) (λ h. absurd h), place_is limit i r e end, nested_by limit i r e s.passed s.ahead s.parts s.place)
refuses limit i end (refusal.TooNested n) f =
    let r = refusal.TooNested n in
    let e = f (λ h. absurd cc) in
    let s = stop limit i r e in
    let d = s.deeper tt in
    let parts = s.parts ∙ ap (λ z. s.passed ++ z) d.parts in
    let l = ap length d.parts in (
      length s.passed,
      passes_by limit i r e s.passed s.ahead s.parts s.place (stop_cut limit i r e) (λ h m q g. let same : m ≡ d.first = first_same (sym g ∙ d.parts) in ap (λ (z : Mark). z.head) same ∙ d.plain),
      place_is limit i r e end,
      omega (arith, passed_length i s.passed s.ahead s.parts, l),
      (suc limit, subst (IsCut (suc limit)) (sym (ap (take (suc (length s.passed))) parts ∙ take_one s.passed d.others d.first)) (cut_from (suc limit) (s.passed ++ d.first ∷ []) (cut_of (suc limit) (s.passed ++ d.first ∷ []) (d.begins (suc (suc limit)) (omega arith))))),
    )
  where
    first_same : {m k : Mark} {q p : List Mark} → m ∷ q ≡ k ∷ p → m ≡ k
    first_same h = cc
