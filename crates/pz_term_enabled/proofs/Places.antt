-- What is noted of parts: of lists end to end, and of parts seen from further out.
use Rattle.std.proofs.Common.{◌≡◌, ℕ, List, [], ◌∷◌, ◌++◌, map, Option, Some, None, refl, sym, ap, ◌∙◌, append_assoc}
use Rattle.std.specs.List.{cons_option}
use Rattle.pz_rules.specs.pz_offer.PlaceOrder.{Place}
use Rattle.pz_rules.specs.Terms.{Term}
use Rattle.pz_rules.specs.devices.Walk.{ActivePart, here, under, Noted, noted_at, noted}
use Rattle.pz_term_enabled.specs.devices.Walked.{whats}
use Rattle.pz_term_enabled.specs.devices.Listings.{below}

-- in a child of this number
abbrev pub further : {X : Type 0} → ℕ → Noted X → Noted X
further i n = record { place = i ∷ n.place; what = n.what }

module _ {X : Type 0} (h : ℕ → Term → Option X) where
  pub noted_append : (ps qs : List ActivePart) → noted h (ps ++ qs) ≡ noted h ps ++ noted h qs
  noted_append [] qs = refl
  noted_append (p ∷ ps) qs = by (noted_at p.place (h p.frame p.part)) (noted_append ps qs)
    where
      by : (o : Option (Noted X)) → noted h (ps ++ qs) ≡ noted h ps ++ noted h qs → cons_option o (noted h (ps ++ qs)) ≡ cons_option o (noted h ps) ++ noted h qs
      by None rest = rest
      by (Some n) rest = ap (λ (ns : List (Noted X)). n ∷ ns) rest

  pub noted_under : (i : ℕ) (ps : List ActivePart) → noted h (map (under i) ps) ≡ map (further i) (noted h ps)
  noted_under i [] = refl
  noted_under i (p ∷ ps) = by (h p.frame p.part) (noted_under i ps)
    where
      by : (o : Option X) → noted h (map (under i) ps) ≡ map (further i) (noted h ps) → cons_option (noted_at (i ∷ p.place) o) (noted h (map (under i) ps)) ≡ map (further i) (cons_option (noted_at p.place o) (noted h ps))
      by None rest = rest
      by (Some x) rest = ap (λ (ns : List (Noted X)). record { place = i ∷ p.place; what = x } ∷ ns) rest

  -- of a part of which nothing is noted, and of one of which this is
  pub noted_none : (f : ℕ) (t : Term) (ps : List ActivePart) → h f t ≡ None → noted h (here f t ∷ ps) ≡ noted h ps
  noted_none f t ps is = ap (λ (o : Option X). cons_option (noted_at [] o) (noted h ps)) is

  pub noted_some : (f : ℕ) (t : Term) (x : X) → h f t ≡ Some x → noted h (here f t ∷ []) ≡ record { place = []; what = x } ∷ []
  noted_some f t x is = ap (λ (o : Option X). cons_option (noted_at [] o) []) is

map-append : {Y Z : Type 0} (g : Y → Z) (xs ys : List Y) → map g (xs ++ ys) ≡ map g xs ++ map g ys
map-append g [] ys = refl
map-append {Y} {Z} g (x ∷ xs) ys = ap (λ (zs : List Z). g x ∷ zs) (map-append g xs ys)

module _ {X : Type 0} where
  pub below_further : (place : Place) (i : ℕ) (ns : List (Noted X)) → map (below place) (map (further i) ns) ≡ map (below (place ++ i ∷ [])) ns
  below_further place i [] = refl
  below_further place i (n ∷ ns) =
      ap (λ (p : Place). record { place = p; what = n.what } ∷ map (below place) (map (further i) ns)) (sym (append_assoc place (i ∷ []) n.place))
      ∙ ap (λ (ms : List (Noted X)). below (place ++ i ∷ []) n ∷ ms) (below_further place i ns)

  pub whats_further : (i : ℕ) (ns : List (Noted X)) → whats (map (further i) ns) ≡ whats ns
  whats_further i [] = refl
  whats_further i (n ∷ ns) = ap (λ (xs : List X). n.what ∷ xs) (whats_further i ns)

  pub below_append : (place : Place) (ns ms : List (Noted X)) → map (below place) (ns ++ ms) ≡ map (below place) ns ++ map (below place) ms
  below_append place ns ms = map-append (below place) ns ms

  pub whats_append : (ns ms : List (Noted X)) → whats (ns ++ ms) ≡ whats ns ++ whats ms
  whats_append ns ms = map-append (λ (n : Noted X). n.what) ns ms

  pub below_root : (ns : List (Noted X)) → map (below []) ns ≡ ns
  below_root [] = refl
  below_root (n ∷ ns) = ap (λ (ms : List (Noted X)). n ∷ ms) (below_root ns)
