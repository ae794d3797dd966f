-- What is still to be visited.
use Rattle.std.proofs.Common.{◌≡◌, refl, sym, ap, ◌∙◌, ℕ, zero, suc, ◌+◌, List, [], ◌∷◌, ◌++◌, append_assoc, append-nil, drop, Some, None, slice_get, arith}
use Rattle.pz_bind_levels.specs.declared.plan.LevelPart.{LevelPart}
use Rattle.pz_bind_levels.specs.declared.walk.Open.{Open}
use Rattle.pz_bind_levels.specs.Layouts.{Layout, layout}
use Rattle.pz_bind_levels.specs.Places.{Spot, with_inside, each_part, inside}
use Rattle.pz_bind_levels.specs.devices.Walking.{still_in, IsLeft, after, opened, part_at}
use Rattle.pz_bind_levels.proofs.Each.{in_first}

drop_at : {A : Type 0} (xs : List A) (i : ℕ) (x : A) → slice_get xs i ≡ Some x → drop i xs ≡ x ∷ drop (i + 1) xs
drop_at [] i x at = cc
drop_at (y ∷ xs) zero x at = let same : y ≡ x = cc in ap (λ z. z ∷ xs) same
drop_at (y ∷ xs) (suc i) x at = let one : suc i + 1 ≡ suc (i + 1) = omega arith in rw one (drop_at xs i x at)

drop_past : {A : Type 0} (xs : List A) (i : ℕ) → slice_get xs i ≡ None → drop i xs ≡ []
drop_past [] zero at = refl
drop_past [] (suc i) at = refl
drop_past (x ∷ xs) zero at = cc
drop_past (x ∷ xs) (suc i) at = drop_past xs i at

module _ (layouts : List Layout) where
  -- the next part, what stands in it, and the parts behind it
  pub next_first : (s : Spot) (o : Open) (p : LevelPart) → part_at layouts s.class o.part ≡ Some p
      → still_in layouts s o ≡ with_inside (inside layouts o.below) s.place o.part p ++ still_in layouts s (after o)
  next_first s o p at =
      let one : suc o.part ≡ o.part + 1 = omega arith in
      ap (each_part (with_inside (inside layouts o.below) s.place) o.part) (drop_at (layout layouts s.class).parts o.part p at)
      ∙ ap (λ i. with_inside (inside layouts o.below) s.place o.part p ++ each_part (with_inside (inside layouts o.below) s.place) i (drop (o.part + 1) (layout layouts s.class).parts)) one

  pub none_next : (s : Spot) (o : Open) → part_at layouts s.class o.part ≡ None → still_in layouts s o ≡ []
  none_next s o at = ap (each_part (with_inside (inside layouts o.below) s.place) o.part) (drop_past (layout layouts s.class).parts o.part at)

  -- the last of the open levels comes first
  pub record First (ss : List Spot) (opens : List Open) (o : Open) (rest : List Spot) : Type 0 where
    pub level : Spot
    pub later : List Spot
    pub at : slice_get ss o.level ≡ Some level
    pub left : IsLeft layouts ss opens later
    pub is : rest ≡ still_in layouts level o ++ later

  pub first : (ss : List Spot) (opens : List Open) (o : Open) (rest : List Spot) → IsLeft layouts ss (opens ++ o ∷ []) rest → First ss opens o rest
  first ss [] o rest (s, later, at, none, is) = record { level = s; later = []; at = at; left = refl; is = is ∙ rw none (sym (append-nil (still_in layouts s o))) }
  first ss (x ∷ opens) o rest (s, later, at, left, is) = by_rest (first ss opens o later left)
    where
      by_rest : First ss opens o later → First ss (x ∷ opens) o rest
      by_rest f = record {
        level = f.level;
        later = f.later ++ still_in layouts s x;
        at = f.at;
        left = (s, f.later, at, f.left, refl);
        is = is ∙ rw f.is (append_assoc (still_in layouts f.level o) f.later (still_in layouts s x));
      }

  pub one_more : (ss : List Spot) (opens : List Open) (o : Open) (s : Spot) (later : List Spot) → IsLeft layouts ss opens later → slice_get ss o.level ≡ Some s
      → IsLeft layouts ss (opens ++ o ∷ []) (still_in layouts s o ++ later)
  one_more ss [] o s later none at = (s, [], at, refl, rw none (append-nil (still_in layouts s o)))
  one_more ss (x ∷ opens) o s later (t, rest, there, left, is) at =
      (t, still_in layouts s o ++ rest, there, one_more ss opens o s rest left at, ap (λ (xs : List Spot). still_in layouts s o ++ xs) is ∙ sym (append_assoc (still_in layouts s o) rest (still_in layouts t x)))

  -- more levels change nothing
  pub grown : (ss more : List Spot) (opens : List Open) (rest : List Spot) → IsLeft layouts ss opens rest → IsLeft layouts (ss ++ more) opens rest
  grown ss more [] rest none = none
  grown ss more (o ∷ opens) rest (s, later, at, left, is) = (s, later, in_first ss more o.level s at, grown ss more opens later left, is)

  -- a level that is opened is visited before the others
  pub opens_inside : (ss : List Spot) (opens : List Open) (level below : ℕ) (t : Spot) (later : List Spot) → IsLeft layouts ss opens later → slice_get ss level ≡ Some t
      → IsLeft layouts ss (opens ++ opened level below) (inside layouts below t.class t.place ++ later)
  opens_inside ss opens level zero t later left at = rw (append-nil opens) left
  opens_inside ss opens level (suc below) t later left at = one_more ss opens (record { level = level; part = 0; below = below }) t later left at
