-- Watches of which the first ones have judged a point.
use Rattle.std.proofs.Common.{◌≡◌, refl, ap, ℕ, zero, suc, ◌+◌, ◌<◌, ◌≤◌, List, [], ◌∷◌, ◌++◌, length, get_or, set, take, drop, arith}
use Rattle.pz_watch.specs.declared.watch.Watch.{Watch}
use Rattle.pz_watch.specs.Points.{Point}
use Rattle.pz_watch.specs.Files.{NamedFormula}
use Rattle.pz_watch.specs.devices.Standing.{StandsForNamed, StandForEach}
use Rattle.pz_watch_judging.specs.devices.Judging.{StandHalf}

-- behind the last watch all have
pub half_end : (k : ℕ) (watches : List Watch) (ws : List NamedFormula) (before after : List Point) → length watches ≤ k → StandHalf k watches ws before after → StandForEach watches ws after
half_end zero [] [] before after all stand = tt
half_end zero [] (w ∷ ws) before after all stand = stand
half_end zero (watch ∷ watches) ws before after all stand = absurd (omega arith)
half_end (suc k) [] [] before after all stand = tt
half_end (suc k) [] (w ∷ ws) before after all stand = absurd stand
half_end (suc k) (watch ∷ watches) [] before after all stand = absurd stand
half_end (suc k) (watch ∷ watches) (w ∷ ws) before after all stand = (stand.0, half_end k watches ws before after (omega arith) stand.1)

-- the watch that comes next
pub record Turn (k : ℕ) (watches : List Watch) (ws : List NamedFormula) (before after : List Point) (watch : Watch) : Type 0 where
  pub named : NamedFormula
  pub rest : List NamedFormula
  pub is : drop k ws ≡ named ∷ rest
  pub stands : StandsForNamed watch named before
  pub onward : (v : Watch) → StandsForNamed v named after → StandHalf (suc k) (set watches k v) ws before after

pub half_turn : (k : ℕ) (watches : List Watch) (ws : List NamedFormula) (before after : List Point) (d : Watch) → k < length watches → StandHalf k watches ws before after
    → Turn k watches ws before after (get_or watches k d)
half_turn zero [] ws before after d within stand = absurd (omega arith)
half_turn zero (watch ∷ watches) [] before after d within stand = absurd stand
half_turn zero (watch ∷ watches) (w ∷ ws) before after d within stand = record { named = w; rest = ws; is = refl; stands = stand.0; onward = λ v stands. (stands, stand.1) }
half_turn (suc k) [] ws before after d within stand = absurd (omega arith)
half_turn (suc k) (watch ∷ watches) [] before after d within stand = absurd stand
half_turn (suc k) (watch ∷ watches) (w ∷ ws) before after d within stand =
    let x = half_turn k watches ws before after d (omega arith) stand.1 in
    record { named = x.named; rest = x.rest; is = x.is; stands = x.stands; onward = λ v stands. (stand.0, x.onward v stands) }

-- there are as many formulas as watches
pub as_many : (watches : List Watch) (ws : List NamedFormula) (points : List Point) → StandForEach watches ws points → length watches ≡ length ws
as_many [] [] points stand = refl
as_many [] (w ∷ ws) points stand = absurd stand
as_many (watch ∷ watches) [] points stand = absurd stand
as_many (watch ∷ watches) (w ∷ ws) points stand = ap suc (as_many watches ws points stand.1)

-- a front of a list, and what comes next
pub front_more : (k : ℕ) (ws : List NamedFormula) (w : NamedFormula) (rest : List NamedFormula) → drop k ws ≡ w ∷ rest → take (suc k) ws ≡ take k ws ++ w ∷ []
front_more zero [] w rest is = cc
front_more zero (v ∷ ws) w rest is = ap (λ (u : NamedFormula). u ∷ []) (first_is is)
  where
    first_is : {a b : NamedFormula} {us vs : List NamedFormula} → a ∷ us ≡ b ∷ vs → a ≡ b
    first_is h = cc
front_more (suc k) [] w rest is = cc
front_more (suc k) (v ∷ ws) w rest is = ap (λ (l : List NamedFormula). v ∷ l) (front_more k ws w rest is)
