-- A walk through a system, from its beginning to its end.
use Rattle.std.proofs.Common.{◌≡◌, refl, sym, ap, ◌∙◌, subst, ℕ, zero, suc, ◌+◌, ◌-◌, ◌*◌, ◌<◌, ◌≤◌, Bool, true, false, not, List, [], ◌∷◌, ◌++◌, append_assoc, append-nil, length, length-append, Option, Some, None, slice_get, arith}
use Rattle.std.specs.Bool.{MatchBool}
use Rattle.std.specs.Option.{MatchOption}
use Rattle.std.proofs.lemmas.List.{length_push}
use Rattle.std.proofs.lemmas.List.Filters.{length-filter_both}
use Rattle.pz_bind_levels.specs.declared.expansion.Process.{Process}
use Rattle.pz_bind_levels.specs.declared.plan.LevelPart.{LevelPart}
use Rattle.pz_bind_levels.specs.declared.expansion.Level.{Level}
use Rattle.pz_bind_levels.specs.declared.expansion.Expansion.{Expansion}
use Rattle.pz_bind_levels.specs.declared.walk.Open.{Open}
use Rattle.pz_bind_levels.specs.declared.walk.Walk.{Walk}
use Rattle.pz_bind_levels.specs.Layouts.{Layout, layout, AreLinked}
use Rattle.pz_bind_levels.specs.Places.{Spot, spot, the_system, with_inside, inside, spots, layout_at}
use Rattle.pz_bind_levels.specs.devices.Expanded.{at_top, in_level, IsLevel, IsProcess, IsWire, AreInwards, IsExpansion}
use Rattle.pz_bind_levels.specs.devices.Walking.{still_in, IsLeft, part_at, next_of, standing_of, after, opened, levels_among, processes_among, wires_among, IsKept, Enters, Meets, Visits, Steps, IsWalk, Goes}
use Rattle.pz_bind_levels.proofs.Each.{at_end, none, partner}
use Rattle.pz_bind_levels.proofs.Left.{next_first, none_next, First, first, one_more, grown, opens_inside}
use Rattle.pz_bind_levels.proofs.Kept.{levels_more, levels_same, meets, enters}

module _ (layouts : List Layout) (system : ℕ) (linked : AreLinked layouts) where
  none_inwards : AreInwards []
  none_inwards n l s at is = cc

  -- nothing is kept at first
  nothing : (w : Walk) → w.levels ≡ [] → w.processes ≡ [] → w.wires ≡ [] → IsKept layouts system [] w
  nothing w levels processes wires = record { levels = rw levels (none (IsLevel layouts system [] [])); processes = rw processes (none (IsProcess [])); wires = rw wires (none (IsWire [])); inwards = rw levels none_inwards }

  pub begun : (old new : Walk) (below : ℕ) → below ≡ length layouts - 1 → old.levels ≡ [] → old.processes ≡ [] → old.wires ≡ [] → old.path.items ≡ [] → Enters layouts system None below old.path.items old new → Goes layouts system new
  begun old new below size levels processes wires opens entered =
      let s = the_system system in
      let kept : IsKept layouts system (s ∷ []) new = enters layouts system linked [] s None below old.path.items old new (nothing old levels processes wires) entered refl at_top refl in
      let open_now : new.path.items ≡ [] ++ opened 0 (length layouts - 1) = entered.opened ∙ rw (opens, levels, size) refl in
      record {
        visited = s ∷ [];
        rest = inside layouts (length layouts - 1) system [];
        walk = record {
          kept = kept;
          left = rw open_now (subst (IsLeft layouts (s ∷ []) ([] ++ opened 0 (length layouts - 1))) (append-nil (inside layouts (length layouts - 1) system [])) (opens_inside layouts (s ∷ []) [] 0 (length layouts - 1) s [] refl refl));
          whole = refl;
        };
      }

  module _ (visited rest : List Spot) (w popped new : Walk) (o : Open) (walk : IsWalk layouts system visited rest w) (kept : IsKept layouts system visited popped) (last : w.path.items ≡ popped.path.items ++ o ∷ []) where
    abbrev ss : List Spot
    ss = levels_among visited

    module _ (s : Spot) (later : List Spot) (at : slice_get ss o.level ≡ Some s) (left : IsLeft layouts ss popped.path.items later) (whole : spots layouts system ≡ visited ++ (still_in layouts s o ++ later)) (planned : layout_at layouts system s.place ≡ layout layouts s.class) where
      -- the level is done
      level_done : part_at layouts s.class o.part ≡ None → new ≡ popped → Goes layouts system new
      level_done past same = subst (Goes layouts system) (sym same) (record {
        visited = visited;
        rest = later;
        walk = record { kept = kept; left = left; whole = whole ∙ ap (λ (xs : List Spot). visited ++ (xs ++ later)) (none_next layouts s o past) };
      })

      module _ (p : LevelPart) (next : part_at layouts s.class o.part ≡ Some p) where
        abbrev t : Spot
        t = spot s.place o.part p

        abbrev behind : List Spot
        behind = still_in layouts s (after o) ++ later

        whole_with : (within : List Spot) → with_inside (inside layouts o.below) s.place o.part p ≡ t ∷ within → spots layouts system ≡ (visited ++ t ∷ []) ++ (within ++ behind)
        whole_with within is =
            whole
            ∙ (ap (λ (xs : List Spot). visited ++ (xs ++ later)) (next_first layouts s o p next ∙ ap (λ (xs : List Spot). xs ++ still_in layouts s (after o)) is)
            ∙ (ap (λ (xs : List Spot). visited ++ (t ∷ xs)) (append_assoc within (still_in layouts s (after o)) later)
            ∙ sym (append_assoc visited (t ∷ []) (within ++ behind))))

        behind_left : IsLeft layouts ss (popped.path.items ++ after o ∷ []) behind
        behind_left = one_more layouts ss popped.path.items (after o) s later left at

        t_planned : layout_at layouts system t.place ≡ layout layouts t.class
        t_planned = rw (planned, next) refl

        visit : (b : Bool) → p.is_level ≡ b → MatchBool b (Enters layouts p.class (Some (standing_of o)) o.below (popped.path.items ++ after o ∷ []) popped new) (Meets p.class (standing_of o) (popped.path.items ++ after o ∷ []) popped new) → Goes layouts system new
        visit true is entered =
            let more : levels_among (visited ++ t ∷ []) ≡ ss ++ t ∷ [] = levels_more visited t is in
            let there : slice_get (ss ++ t ∷ []) (length popped.levels) ≡ Some t = subst (λ n. slice_get (ss ++ t ∷ []) n ≡ Some t) (sym kept.levels.counted) (at_end ss t []) in
            record {
              visited = visited ++ t ∷ [];
              rest = inside layouts o.below p.class t.place ++ behind;
              walk = record {
                kept = enters layouts system linked visited t (Some (standing_of o)) o.below (popped.path.items ++ after o ∷ []) popped new kept entered is (in_level (standing_of o) s at) t_planned;
                left = rw (more, entered.opened) (opens_inside layouts (ss ++ t ∷ []) (popped.path.items ++ after o ∷ []) (length popped.levels) o.below t behind (grown layouts ss (t ∷ []) (popped.path.items ++ after o ∷ []) behind behind_left) there);
                whole = whole_with (inside layouts o.below p.class t.place) (rw is refl);
              };
            }
        visit false is met = record {
          visited = visited ++ t ∷ [];
          rest = behind;
          walk = record {
            kept = meets layouts system visited t (standing_of o) (popped.path.items ++ after o ∷ []) popped new kept met is (in_level (standing_of o) s at);
            left = rw (levels_same visited t is, met.opened) behind_left;
            whole = whole_with [] (rw is refl);
          };
        }

      by_part : (next : Option LevelPart) → part_at layouts s.class o.part ≡ next → MatchOption next (new ≡ popped) (λ p. Visits layouts p (standing_of o) o.below (popped.path.items ++ after o ∷ []) popped new) → Goes layouts system new
      by_part None past same = level_done past same
      by_part (Some p) next visits = visit p next p.is_level refl visits

    pub stepped : Steps layouts o popped new → Goes layouts system new
    stepped steps = by_first (first layouts ss popped.path.items o rest (subst (λ (os : List Open). IsLeft layouts ss os rest) last walk.left))
      where
        by_level : (f : First layouts ss popped.path.items o rest) → (l : Level) × (slice_get popped.levels o.level ≡ Some l) × IsLevel layouts system ss (wires_among layouts system visited) l f.level → Goes layouts system new
        by_level f (l, found, is) =
            let next : next_of layouts popped.levels o ≡ part_at layouts f.level.class o.part = rw (found, is.class) refl in
            by_part f.level f.later f.at f.left (walk.whole ∙ ap (λ (xs : List Spot). visited ++ xs) f.is) is.planned (part_at layouts f.level.class o.part) refl
            (subst (λ (next : Option LevelPart). MatchOption next (new ≡ popped) (λ p. Visits layouts p (standing_of o) o.below (popped.path.items ++ after o ∷ []) popped new)) next steps)

        by_first : First layouts ss popped.path.items o rest → Goes layouts system new
        by_first f = by_level f (partner (IsLevel layouts system ss (wires_among layouts system visited)) popped.levels ss kept.levels o.level f.level f.at)

  -- no more is kept than there is
  pub few : (w : Walk) → Goes layouts system w → length w.levels + length w.processes ≤ length (spots layouts system)
  few w goes =
      let both : length (levels_among goes.visited) + length (processes_among goes.visited) ≡ length goes.visited = length-filter_both (λ s. s.is_level) (λ s. not s.is_level) (λ s. refl) goes.visited in
      let whole : length (spots layouts system) ≡ length goes.visited + length goes.rest = ap (λ (xs : List Spot). length xs) goes.walk.whole ∙ length-append goes.visited goes.rest in
      let levels : length w.levels ≡ length (levels_among goes.visited) = goes.walk.kept.levels.counted in
      let processes : length w.processes ≡ length (processes_among goes.visited) = goes.walk.kept.processes.counted in
      omega arith

  pub ended : (w : Walk) (e : Expansion) → Goes layouts system w → w.path.items ≡ [] → e.levels ≡ w.levels → e.processes ≡ w.processes → e.wires ≡ w.wires → IsExpansion layouts system e
  ended w e goes none_open levels processes wires = record {
    levels = rw levels kept.levels;
    processes = rw processes kept.processes;
    wires = rw wires kept.wires;
    inwards = rw levels kept.inwards;
  }
    where
      no_rest : goes.rest ≡ []
      no_rest = subst (λ (os : List Open). IsLeft layouts (levels_among goes.visited) os goes.rest) none_open goes.walk.left

      all : goes.visited ≡ spots layouts system
      all = sym (goes.walk.whole ∙ rw no_rest (append-nil goes.visited))

      kept : IsKept layouts system (spots layouts system) w
      kept = subst (λ (xs : List Spot). IsKept layouts system xs w) all goes.walk.kept

-- each step visits one more, or leaves a level
module _ (layouts : List Layout) (o : Open) (popped new : Walk) (most : ℕ) (few_new : length new.levels + length new.processes ≤ most) where
  abbrev Nearer : Type 0
  Nearer = 2 * (most - (length new.levels + length new.processes)) + length new.path.items < 2 * (most - (length popped.levels + length popped.processes)) + (length popped.path.items + 1)

  opened_few : (level below : ℕ) → length (opened level below) ≤ 1
  opened_few level zero = omega arith
  opened_few level (suc below) = omega arith

  by_visit : (p : LevelPart) (b : Bool) → MatchBool b (Enters layouts p.class (Some (standing_of o)) o.below (popped.path.items ++ after o ∷ []) popped new) (Meets p.class (standing_of o) (popped.path.items ++ after o ∷ []) popped new) → Nearer
  by_visit p true entered =
      let one : length new.levels ≡ length popped.levels + 1 = ap (λ (xs : List Level). length xs) entered.levels ∙ length_push popped.levels _ in
      let same : length new.processes ≡ length popped.processes = ap (λ (xs : List Process). length xs) entered.processes in
      let opens : length new.path.items ≡ length (popped.path.items ++ after o ∷ []) + length (opened (length popped.levels) o.below) = ap (λ (xs : List Open). length xs) entered.opened ∙ length-append (popped.path.items ++ after o ∷ []) (opened (length popped.levels) o.below) in
      let again : length (popped.path.items ++ after o ∷ []) ≡ length popped.path.items + 1 = length_push popped.path.items (after o) in
      let little : length (opened (length popped.levels) o.below) ≤ 1 = opened_few (length popped.levels) o.below in
      omega arith
  by_visit p false met =
      let same : length new.levels ≡ length popped.levels = ap (λ (xs : List Level). length xs) met.levels in
      let one : length new.processes ≡ length popped.processes + 1 = ap (λ (xs : List Process). length xs) met.processes ∙ length_push popped.processes _ in
      let opens : length new.path.items ≡ length popped.path.items + 1 = ap (λ (xs : List Open). length xs) met.opened ∙ length_push popped.path.items (after o) in
      omega arith

  pub nearer : Steps layouts o popped new → Nearer
  nearer steps = by_next (next_of layouts popped.levels o) steps
    where
      by_next : (next : Option LevelPart) → MatchOption next (new ≡ popped) (λ p. Visits layouts p (standing_of o) o.below (popped.path.items ++ after o ∷ []) popped new) → Nearer
      by_next None same =
          let levels : length new.levels ≡ length popped.levels = ap (λ (w : Walk). length w.levels) same in
          let processes : length new.processes ≡ length popped.processes = ap (λ (w : Walk). length w.processes) same in
          let opens : length new.path.items ≡ length popped.path.items = ap (λ (w : Walk). length w.path.items) same in
          omega arith
      by_next (Some p) visits = by_visit p p.is_level visits
