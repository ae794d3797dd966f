-- What is kept once one more is visited.
use Rattle.std.proofs.Common.{◌≡◌, refl, sym, ap, ◌∙◌, subst, ℕ, ◌+◌, ◌<◌, true, false, not, List, [], ◌∷◌, ◌++◌, append-nil, length, Option, Some, None, slice_get, arith, ◌⊎◌, inl, inr}
use Rattle.std.specs.List.{flat_map}
use Rattle.std.proofs.lemmas.Option.{slice_get_within}
use Rattle.std.proofs.lemmas.List.Elements.{filter-append}
use Rattle.std.proofs.lemmas.List.Concat.{flat_map-append}
use Rattle.pz_bind_levels.specs.declared.expansion.Standing.{Standing}
use Rattle.pz_bind_levels.specs.declared.expansion.Level.{Level}
use Rattle.pz_bind_levels.specs.declared.walk.Open.{Open}
use Rattle.pz_bind_levels.specs.declared.walk.Walk.{Walk}
use Rattle.pz_bind_levels.specs.Layouts.{Layout, layout, AreLinked}
use Rattle.pz_bind_levels.specs.Places.{Address, Spot, layout_at}
use Rattle.pz_bind_levels.specs.Wires.{Channel, joined_by, ending, wires_of}
use Rattle.pz_bind_levels.specs.devices.Expanded.{EachOf, StandsAt, at_top, in_level, IsLevel, IsProcess, IsWire, AreInwards}
use Rattle.pz_bind_levels.specs.devices.Tops.{top}
use Rattle.pz_bind_levels.specs.devices.Walking.{wire_at, wire_above, new_wires, own_wires, levels_among, processes_among, wires_among, IsKept, Enters, Meets}
use Rattle.pz_bind_levels.proofs.Each.{in_first, at_end, pushed_at, there, both, pushed, implied, partner}
use Rattle.pz_bind_levels.proofs.Wired.{top_by, top_by_port, Fits, ends, goes_on, new_are, Have, own_have}

-- a level comes to the levels, and a process does not
pub levels_more : (visited : List Spot) (s : Spot) → s.is_level ≡ true → levels_among (visited ++ s ∷ []) ≡ levels_among visited ++ s ∷ []
levels_more visited s is = filter-append (λ t. t.is_level) visited (s ∷ []) ∙ rw is refl

pub levels_same : (visited : List Spot) (s : Spot) → s.is_level ≡ false → levels_among (visited ++ s ∷ []) ≡ levels_among visited
levels_same visited s is = filter-append (λ t. t.is_level) visited (s ∷ []) ∙ rw is (append-nil (levels_among visited))

processes_more : (visited : List Spot) (s : Spot) → s.is_level ≡ false → processes_among (visited ++ s ∷ []) ≡ processes_among visited ++ s ∷ []
processes_more visited s is = filter-append (λ t. not t.is_level) visited (s ∷ []) ∙ rw is refl

processes_same : (visited : List Spot) (s : Spot) → s.is_level ≡ true → processes_among (visited ++ s ∷ []) ≡ processes_among visited
processes_same visited s is = filter-append (λ t. not t.is_level) visited (s ∷ []) ∙ rw is (append-nil (processes_among visited))

pub stands_still : (ss more : List Spot) (o : Option Standing) (place : Address) → StandsAt ss o place → StandsAt (ss ++ more) o place
stands_still ss more _ _ at_top = at_top
stands_still ss more _ _ (in_level s up at) = in_level s up (in_first ss more s.level up at)

-- a level comes behind those that it stands in
inwards_more : (ls : List Level) (l : Level) → AreInwards ls → ((s : Standing) → l.standing ≡ Some s → s.level < length ls) → AreInwards (ls ++ l ∷ [])
inwards_more ls l all within n k s at is = by_place (pushed_at ls l k n at)
  where
    by_place : (slice_get ls n ≡ Some k) ⊎ ((n ≡ length ls) × (l ≡ k)) → s.level < n
    by_place (inl found) = all n k s found is
    by_place (inr (last, same)) = rw last (within s (ap (λ (x : Level). x.standing) same ∙ is))

stands_within : (ss : List Spot) (o : Option Standing) (place : Address) (s : Standing) → StandsAt ss o place → o ≡ Some s → s.level < length ss
stands_within ss _ _ s at_top is = cc
stands_within ss _ _ s (in_level t up at) is = let same : t ≡ s = cc in subst (λ (x : Standing). x.level < length ss) same (slice_get_within ss t.level up at)

module _ (layouts : List Layout) (system : ℕ) where
  still_level : (ss more : List Spot) (cs later : List Channel) (l : Level) (s : Spot) → IsLevel layouts system ss cs l s → IsLevel layouts system (ss ++ more) (cs ++ later) l s
  still_level ss more cs later l s is = record {
    class = is.class;
    planned = is.planned;
    stands = stands_still ss more l.standing s.place is.stands;
    counted = is.counted;
    wired = λ k w at. in_first cs later w (top layouts system s.place k) (is.wired k w at);
  }

  -- a process is met
  pub meets : (visited : List Spot) (s : Spot) (standing : Standing) (opens : List Open) (old new : Walk) → IsKept layouts system visited old → Meets s.class standing opens old new
      → s.is_level ≡ false → StandsAt (levels_among visited) (Some standing) s.place → IsKept layouts system (visited ++ s ∷ []) new
  meets visited s standing opens old new kept met is stands = rebuild (levels_same visited s is) (processes_more visited s is)
    where
      ss : List Spot
      ss = levels_among visited

      rebuild : levels_among (visited ++ s ∷ []) ≡ ss → processes_among (visited ++ s ∷ []) ≡ processes_among visited ++ s ∷ [] → IsKept layouts system (visited ++ s ∷ []) new
      rebuild same more = record {
        levels = rw (same, met.levels) kept.levels;
        processes = rw (same, more, met.processes) (pushed (IsProcess ss) old.processes (processes_among visited) (record { class = s.class; standing = standing }) s kept.processes (record { class = refl; stands = stands }));
        wires = rw (same, met.wires) kept.wires;
        inwards = rw met.levels kept.inwards;
      }

  -- what is known of the wires outside fits
  module _ (linked : AreLinked layouts) (ss : List Spot) (cs : List Channel) (levels : List Level) (all : EachOf (IsLevel layouts system ss cs) levels ss) where
    fits_in : (standing : Standing) (up : Spot) (l : Level) → slice_get levels standing.level ≡ Some l → IsLevel layouts system ss cs l up → (port : ℕ) → (o : Option ℕ) → (layout layouts up.class).linked standing.part port ≡ o
        → Fits layouts system cs (standing.part ∷ up.place) (wire_at layouts levels standing port) (Some port)
    fits_in standing up l at is port None linked_to =
        let there : wire_at layouts levels standing port ≡ None = rw (at, is.class, linked_to) refl in
        ends there (rw (is.planned) linked_to)
    fits_in standing up l at is port (Some j) linked_to = by_wire (Rattle.pz_bind_levels.proofs.Each.there l.wires j (let inside : j < length (layout layouts up.class).outer = linked up.class standing.part port j linked_to in let counts : length l.wires ≡ length (layout layouts up.class).outer = is.counted in omega arith))
      where
        joins : joined_by layouts system (standing.part ∷ up.place) (Some port) ≡ Some j
        joins = rw (is.planned) linked_to

        by_wire : (w : ℕ) × (slice_get l.wires j ≡ Some w) → Fits layouts system cs (standing.part ∷ up.place) (wire_at layouts levels standing port) (Some port)
        by_wire (w, wired) = goes_on w (rw (at, is.class, linked_to) wired) (rw joins refl) (λ k. rw joins (is.wired j w wired))

    fits : (standing : Option Standing) (place : Address) → StandsAt ss standing place → (port : Option ℕ) → Fits layouts system cs place (wire_above layouts levels standing port) port
    fits _ _ at_top port = ends refl refl
    fits _ _ (in_level s up at) None = ends refl refl
    fits _ _ (in_level s up at) (Some port) = by_level (partner (IsLevel layouts system ss cs) levels ss all s.level up at)
      where
        by_level : (l : Level) × (slice_get levels s.level ≡ Some l) × IsLevel layouts system ss cs l up → Fits layouts system cs (s.part ∷ up.place) (wire_at layouts levels s port) (Some port)
        by_level (l, found, is) = fits_in s up l found is port ((layout layouts up.class).linked s.part port) refl

  -- a level is entered
  pub enters : (linked : AreLinked layouts) (visited : List Spot) (s : Spot) (standing : Option Standing) (below : ℕ) (opens : List Open) (old new : Walk) → IsKept layouts system visited old → Enters layouts s.class standing below opens old new
      → s.is_level ≡ true → StandsAt (levels_among visited) standing s.place → layout_at layouts system s.place ≡ layout layouts s.class → IsKept layouts system (visited ++ s ∷ []) new
  enters linked visited s standing below opens old new kept entered is stands planned = rebuild (levels_more visited s is) (processes_same visited s is)
    where
      ss : List Spot
      ss = levels_among visited

      cs : List Channel
      cs = wires_among layouts system visited

      outs : List (Option ℕ)
      outs = (layout layouts s.class).outer

      more : List Channel
      more = ending layouts system s.place 0 outs

      above : Option ℕ → Option ℕ
      above = wire_above layouts old.levels standing

      fit : (port : Option ℕ) → Fits layouts system cs s.place (above port) port
      fit = fits linked ss cs old.levels kept.levels standing s.place stands

      own : List ℕ
      own = own_wires above (length old.wires) outs

      have : Have layouts system above s.place (cs ++ more) 0 outs own
      have = own_have layouts system above s.place cs (length old.wires) (sym kept.wires.counted) fit 0 outs

      wired : (k w : ℕ) → slice_get own k ≡ Some w → slice_get (cs ++ more) w ≡ Some (top layouts system s.place k)
      wired k w at = by_port (there outs k (let below : k < length own = slice_get_within own k w at in let counts : length own ≡ length outs = have.counted in omega arith))
        where
          by_port : (port : Option ℕ) × (slice_get outs k ≡ Some port) → slice_get (cs ++ more) w ≡ Some (top layouts system s.place k)
          by_port (port, found) =
              let from_zero : 0 + k ≡ k = omega arith in
              let here : top layouts system s.place k ≡ top_by layouts system s.place port k = top_by_port layouts system s.place k ∙ rw (planned, found) refl in
              rw (here, ← from_zero) (have.each k w port found at)

      new_level : Level
      new_level = record { class = s.class; standing = standing; wires = own }

      is_level : IsLevel layouts system (ss ++ s ∷ []) (cs ++ more) new_level s
      is_level = record { class = refl; planned = planned; stands = stands_still ss (s ∷ []) standing s.place stands; counted = have.counted; wired = wired }

      stands_there : slice_get (ss ++ s ∷ []) (length old.levels) ≡ Some s
      stands_there = subst (λ n. slice_get (ss ++ s ∷ []) n ≡ Some s) (sym kept.levels.counted) (at_end ss s [])

      rebuild : levels_among (visited ++ s ∷ []) ≡ ss ++ s ∷ [] → processes_among (visited ++ s ∷ []) ≡ processes_among visited → IsKept layouts system (visited ++ s ∷ []) new
      rebuild grown same =
          let wires_more : flat_map (wires_of layouts system) (ss ++ s ∷ []) ≡ cs ++ more = flat_map-append (wires_of layouts system) ss (s ∷ []) ∙ rw planned (ap (λ (xs : List Channel). cs ++ xs) (append-nil more)) in
          record {
            levels = rw (grown, wires_more, entered.levels)
                (pushed (IsLevel layouts system (ss ++ s ∷ []) (cs ++ more)) old.levels ss new_level s
                (implied (IsLevel layouts system ss cs) (IsLevel layouts system (ss ++ s ∷ []) (cs ++ more)) old.levels ss (λ l t was. still_level ss (s ∷ []) cs more l t was) kept.levels) is_level);
            processes = rw (grown, same, entered.processes)
                (implied (IsProcess ss) (IsProcess (ss ++ s ∷ [])) old.processes (processes_among visited) (λ p t was. record { class = was.class; stands = stands_still ss (s ∷ []) (Some p.standing) t.place was.stands }) kept.processes);
            wires = rw (grown, wires_more, entered.wires)
                (both (IsWire (ss ++ s ∷ [])) old.wires (new_wires above (length old.levels) 0 outs) cs more
                (implied (IsWire ss) (IsWire (ss ++ s ∷ [])) old.wires cs (λ w c was. record { level = was.level; stands = in_first ss (s ∷ []) w.level was.level was.stands; place = was.place; number = was.number }) kept.wires)
                (new_are layouts system above s.place (ss ++ s ∷ []) s (length old.levels) stands_there refl cs fit 0 outs));
            inwards = rw entered.levels (inwards_more old.levels new_level kept.inwards (λ t is_there. rw kept.levels.counted (stands_within ss standing s.place t stands is_there)));
          }
