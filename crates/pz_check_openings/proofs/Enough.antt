-- Of all methods those that can be too large in some class, with all that can open out of these.
use Rattle.std.proofs.Common.{◌≡◌, refl, sym, ap, ◌∙◌, ℕ, suc, ◌+◌, ◌<◌, ◌≤◌, Bool, true, false, ◌&&◌, ◌||◌, not, nat_le, fold, List, [], ◌∷◌, length, map, Option, Some, slice_get, zero, arith}
use Rattle.std.specs.List.{Contains}
use Rattle.std.proofs.lemmas.Bool.Decides.{nat_tests}
use Rattle.pz_classes.specs.pz_syntax.declared.names.Id.{Id}
use Rattle.pz_classes.specs.pz_syntax.Classes.{ModelTree}
use Rattle.pz_classes_openings.specs.Openings.{spread_to}
use Rattle.pz_check_openings.specs.declared.outline.Outline.{Outline}
use Rattle.pz_check_openings.specs.devices.Outlines.{outlines}
use Rattle.pz_check_openings.specs.devices.Settling.{is_plain}
use Rattle.pz_check_openings.specs.devices.Suspects.{kept}
use Rattle.pz_check_openings.specs.devices.Heavy.{total, is_heavy, is_covered, is_reached, are_reached, is_open, leads_on, is_closed, is_kept, is_kept_if, AreHeavy}
use Rattle.pz_check_openings.proofs.Capping.{heavy_so}

-- those of all methods that are kept: what may be too large, and what has a reached name
pub record Enough (m : ModelTree) (those : List (Option Outline)) : Type 0 where
  pub keeps : Outline → Bool
  pub are : those ≡ map (kept keeps) (outlines m)
  pub heavy : Outline → Bool
  pub reached : List ℕ → Bool
  pub heavy_kept : (o : Outline) → heavy o ≡ true → keeps o ≡ true
  pub plain_kept : (o : Outline) → is_plain o ≡ true → reached o.name.name ≡ true → keeps o ≡ true
  pub calls : (k : ℕ) (o : Outline) (x : Id) → slice_get (outlines m) k ≡ Some (Some o) → heavy o ≡ true → Contains o.calls x → reached x.name ≡ true
  pub begun : (k : ℕ) (o : Outline) (x : Id) → slice_get (outlines m) k ≡ Some (Some o) → is_plain o ≡ true → reached o.name.name ≡ true → Contains o.begun x → reached x.name ≡ true
  pub large : (c k depth : ℕ) (o : Outline) → slice_get (outlines m) k ≡ Some (Some o) → 1000000 < spread_to m c depth k → heavy o ≡ true

or_left : (a b : Bool) → a ≡ true → (a || b) ≡ true
or_left true b is = refl
or_left false b is = cc

or_right : (a b : Bool) → b ≡ true → (a || b) ≡ true
or_right true b is = refl
or_right false b is = is

both : (a b : Bool) → a ≡ true → b ≡ true → (a && b) ≡ true
both true b is other = other
both false b is other = cc

first : (a b : Bool) → (a && b) ≡ true → a ≡ true
first true b is = refl
first false b is = cc

second : (a b : Bool) → (a && b) ≡ true → b ≡ true
second true b is = is
second false b is = cc

implied : (a b : Bool) → (not a || b) ≡ true → a ≡ true → b ≡ true
implied true b is other = is
implied false b is other = cc

le_of : (a b : ℕ) → nat_le a b ≡ true → a ≤ b
le_of a b is = grind (arith, nat_tests)

-- where all of some calls have reached names, each has
module _ (mark : List ℕ → ℕ) where
  held : (b : Bool) (xs : List Id) → fold (λ b x. is_reached mark x.name && b) b xs ≡ true → b ≡ true
  held b [] is = is
  held b (x ∷ xs) is = second (is_reached mark x.name) b (held (is_reached mark x.name && b) xs is)

  each : (b : Bool) (xs : List Id) (x : Id) → fold (λ b x. is_reached mark x.name && b) b xs ≡ true → Contains xs x → is_reached mark x.name ≡ true
  each b [] x is (i, below, same) = absurd (omega arith)
  each b (y ∷ xs) x is (zero, below, same) = ap (λ (z : Id). is_reached mark z.name) (sym same) ∙ first (is_reached mark y.name) b (held (is_reached mark y.name && b) xs is)
  each b (y ∷ xs) x is (suc i, below, same) = each (is_reached mark y.name && b) xs x is (i, omega arith, same)

pub enough : (m : ModelTree) (those : List (Option Outline)) → AreHeavy (outlines m) those → Enough m those
enough m those s = by_sure s.sure refl
  where
    by_sure : (b : Bool) → s.sure ≡ b → Enough m those
    by_sure false is = record {
      keeps = λ o. true;
      are = s.are ∙ ap (λ (b : Bool). map (kept (is_kept_if b s.bound s.mark)) (outlines m)) is;
      heavy = λ o. true;
      reached = λ name. true;
      heavy_kept = λ o heavy. refl;
      plain_kept = λ o plain reached. refl;
      calls = λ k o x here heavy among. refl;
      begun = λ k o x here plain reached among. refl;
      large = λ c k depth o here much. refl;
    }
    by_sure true is = record {
      keeps = is_kept s.bound s.mark;
      are = s.are ∙ ap (λ (b : Bool). map (kept (is_kept_if b s.bound s.mark)) (outlines m)) is;
      heavy = is_heavy s.bound;
      reached = is_reached s.mark;
      heavy_kept = λ o heavy. or_left (is_heavy s.bound o) (is_plain o && is_reached s.mark o.name.name) heavy;
      plain_kept = λ o plain reached. or_right (is_heavy s.bound o) (is_plain o && is_reached s.mark o.name.name) (both (is_plain o) (is_reached s.mark o.name.name) plain reached);
      calls = λ k o x here heavy among. each s.mark true o.calls x (implied (is_heavy s.bound o) (are_reached s.mark o.calls) (opens k o here) heavy) among;
      begun = λ k o x here plain reached among. each s.mark true o.begun x (implied (is_reached s.mark o.name.name) (are_reached s.mark o.begun) (second (is_covered s.bound o) (leads_on s.mark o) (goes_on k o here plain)) reached) among;
      large = heavy_so m s.bound (λ k o here plain. le_of (total s.bound o.statements o.begun) (s.bound o.name.name) (first (is_covered s.bound o) (leads_on s.mark o) (goes_on k o here plain)));
    }
      where
        closed : (k : ℕ) (o : Outline) → slice_get (outlines m) k ≡ Some (Some o) → is_closed s.bound s.mark o ≡ true
        closed k o here = s.closed is k o here

        opens : (k : ℕ) (o : Outline) → slice_get (outlines m) k ≡ Some (Some o) → is_open s.bound s.mark o ≡ true
        opens k o here = first (is_open s.bound s.mark o) (not (is_plain o) || is_covered s.bound o && leads_on s.mark o) (closed k o here)

        goes_on : (k : ℕ) (o : Outline) → slice_get (outlines m) k ≡ Some (Some o) → is_plain o ≡ true → (is_covered s.bound o && leads_on s.mark o) ≡ true
        goes_on k o here plain = implied (is_plain o) (is_covered s.bound o && leads_on s.mark o) (second (is_open s.bound s.mark o) (not (is_plain o) || is_covered s.bound o && leads_on s.mark o) (closed k o here)) plain
