-- What nothing wakes is steady.
use Rattle.std.proofs.Common.{◌≡◌, ◌<◌, ◌+◌, ℕ, suc, Bool, false, ◌||◌, List, [], ◌∷◌, ◌++◌, map, Option, Some, None, refl, subst, arith}
use Rattle.std.specs.Prelude.{option_map}
use Rattle.pz_rules.specs.pz_syntax.Statements as statement
use Rattle.pz_rules.specs.pz_offer.PlaceOrder.{Place}
use Rattle.pz_rules.specs.pz_offer.Summaries.{least}
use Rattle.pz_rules.specs.pz_eval_rules.Clocks.{names_clock}
use Rattle.pz_rules.specs.Terms.{Step, Term, done, leaf, wait, sequence, parallel, select, guarded, frame, abort, idle, handling, Terms, no_terms, and}
use Rattle.pz_rules.specs.Settings.{Context}
use Rattle.pz_rules.specs.devices.Walk.{ActivePart, Noted, under, behind, active_parts, active_children, noted, noted_at, waiting}
use Rattle.std.specs.List.{cons_option}
use Rattle.pz_tree_standing.specs.Summaries.{least_of, summary_of}
use Rattle.pz_tree_standing.specs.Steady.{StatementIsSteady, Steady, AreSteady}
use Rattle.pz_tree_standing.specs.Woken.{any_part, statement_begins, begins, starts, statement_names_clock, is_clocked, clocked, IsAfter}
use Rattle.pz_tree_standing.proofs.Unasked.{or_neither}

pub neither_part : (q : Term → Bool) (ps qs : List ActivePart) → any_part q (ps ++ qs) ≡ false → (any_part q ps ≡ false) × (any_part q qs ≡ false)
neither_part q [] qs h = (refl, h)
neither_part q (p ∷ ps) qs h =
    let e = or_neither (q p.part) (any_part q (ps ++ qs)) h in
    let r = neither_part q ps qs e.1 in
    (λ i. e.0 i || r.0 i, r.1)

pub none_under : (q : Term → Bool) (i : ℕ) (ps : List ActivePart) → any_part q (map (under i) ps) ≡ false → any_part q ps ≡ false
none_under q i [] h = refl
none_under q i (p ∷ ps) h =
    let e = or_neither (q p.part) (any_part q (map (under i) ps)) h in
    λ n. e.0 n || none_under q i ps e.1 n

-- what is to be so of an active part, by itself
abbrev PartIsSteady : ℕ → Term → Type 0
PartIsSteady d (leaf s) = StatementIsSteady s
PartIsSteady d (wait left at) = d < left
PartIsSteady d (guarded test at t) = names_clock test ≡ false
PartIsSteady d t = Unit {0}

abbrev PartsAreSteady : ℕ → List ActivePart → Type 0
PartsAreSteady d [] = Unit {0}
PartsAreSteady d (p ∷ ps) = PartIsSteady d p.part × PartsAreSteady d ps

both_steady : (d : ℕ) (ps qs : List ActivePart) → PartsAreSteady d (ps ++ qs) → PartsAreSteady d ps × PartsAreSteady d qs
both_steady d [] qs h = (tt, h)
both_steady d (p ∷ ps) qs h = let r = both_steady d ps qs h.1 in ((h.0, r.0), r.1)

under_steady : (d i : ℕ) (ps : List ActivePart) → PartsAreSteady d (map (under i) ps) → PartsAreSteady d ps
under_steady d i [] h = tt
under_steady d i (p ∷ ps) h = (h.0, under_steady d i ps h.1)

module _ (a : Context) (d : ℕ) where
  mutual
    from_parts : (f : ℕ) (t : Term) → PartsAreSteady d (active_parts a f t) → Steady a d f t
    from_parts f done h = tt
    from_parts f (leaf s) h = h.0
    from_parts f (wait left at) h = h.0
    from_parts f (sequence t rest) h = from_parts f t (under_steady d 0 (active_parts a f t) h.1)
    from_parts f (parallel ts) h = from_children f 0 ts h.1
    from_parts f (select ts) h = from_children f 0 ts h.1
    from_parts f (guarded test at t) h =
        (h.0, λ e. from_parts f t (under_steady d 0 (active_parts a f t) (subst (λ r. PartsAreSteady d (behind r (map (under 0) (active_parts a f t)))) e h.1)))
    from_parts f (frame number inputs results t) h = from_parts number t (under_steady d 0 (active_parts a number t) h.1)
    from_parts f (abort t u) h =
        let p = both_steady d (map (under 0) (active_parts a f t)) (map (under 1) (active_parts a f u)) h.1 in
        (from_parts f t (under_steady d 0 (active_parts a f t) p.0), from_parts f u (under_steady d 1 (active_parts a f u) p.1))
    from_parts f (idle t u again) h =
        let p = both_steady d (map (under 0) (active_parts a f t)) (map (under 1) (active_parts a f u)) h.1 in
        (from_parts f t (under_steady d 0 (active_parts a f t) p.0), from_parts f u (under_steady d 1 (active_parts a f u) p.1))
    from_parts f (handling t u again) h = from_parts f u (under_steady d 1 (active_parts a f u) h.1)

    from_children : (f k : ℕ) (ts : Terms) → PartsAreSteady d (active_children a f k ts) → AreSteady a d f ts
    from_children f k no_terms h = tt
    from_children f k (and t ts) h =
        let p = both_steady d (map (under k) (active_parts a f t)) (active_children a f (suc k) ts) h in
        (from_parts f t (under_steady d k (active_parts a f t) p.0), from_children f (suc k) ts p.1)

  -- the least of two is past a moment exactly where both are
  both_past : (x y : Option ℕ) → IsAfter d (least x y) → IsAfter d x × IsAfter d y
  both_past None y h = (tt, h)
  both_past (Some m) None h = (h, tt)
  both_past (Some m) (Some n) h = (omega (arith, h), omega (arith, h))

  one_past : (place : Place) (o : Option ℕ) (ns : List (Noted ℕ)) → IsAfter d (least_of (cons_option (noted_at place o) ns)) → IsAfter d o × IsAfter d (least_of ns)
  one_past place None ns h = (tt, h)
  one_past place (Some m) ns h = both_past (Some m) (least_of ns) h

  statement_steady : (s : Step) → statement_begins s ≡ false → statement_names_clock s ≡ false → StatementIsSteady s
  statement_steady (statement.skip at) b c = tt
  statement_steady (statement.delay at e) b c = absurd cc
  statement_steady (statement.bracketed at ts) b c = tt
  statement_steady (statement.block at es) b c = tt
  statement_steady (statement.guarded at e t) b c = tt
  statement_steady (statement.parallel at bs) b c = tt
  statement_steady (statement.select at bs) b c = tt
  statement_steady (statement.conditional at e ts other) b c = tt
  statement_steady (statement.repeated at e ts) b c = tt
  statement_steady (statement.abort at ts t) b c = tt
  statement_steady (statement.interrupt at ts t) b c = tt
  statement_steady (statement.send at port name args after) b c = c
  statement_steady (statement.receive at port name into condition after) b c = tt
  statement_steady (statement.call at method args results) b c = tt
  statement_steady (statement.assignment at x e) b c = tt
  statement_steady (statement.value at e) b c = tt

  part_steady : (f : ℕ) (t : Term) → begins t ≡ false → is_clocked t ≡ false → IsAfter d (waiting a f t) → PartIsSteady d t
  part_steady f done b c w = tt
  part_steady f (leaf s) b c w = statement_steady s b c
  part_steady f (wait left at) b c w = w
  part_steady f (sequence t rest) b c w = tt
  part_steady f (parallel ts) b c w = tt
  part_steady f (select ts) b c w = tt
  part_steady f (guarded test at t) b c w = c
  part_steady f (frame number inputs results t) b c w = tt
  part_steady f (abort t u) b c w = tt
  part_steady f (idle t u again) b c w = tt
  part_steady f (handling t u again) b c w = tt

  parts_steady : (ps : List ActivePart) → any_part begins ps ≡ false → any_part is_clocked ps ≡ false → IsAfter d (least_of (noted (waiting a) ps)) → PartsAreSteady d ps
  parts_steady [] b c w = tt
  parts_steady (p ∷ ps) b c w =
      let q = or_neither (begins p.part) (any_part begins ps) b in
      let r = or_neither (is_clocked p.part) (any_part is_clocked ps) c in
      let v = one_past p.place (waiting a p.frame p.part) (noted (waiting a) ps) w in
      (part_steady p.frame p.part q.0 r.0 v.0, parts_steady ps q.1 r.1 v.1)

  past_left : (c : ℕ) (o : Option ℕ) → IsAfter (c + d) (option_map (λ left. c + left) o) → IsAfter d o
  past_left c None h = tt
  past_left c (Some left) h = omega (arith, h)

  pub unwoken_is_steady : (c f : ℕ) (t : Term) → starts a f t ≡ false → clocked a f t ≡ false → IsAfter (c + d) (summary_of a c f t).due → Steady a d f t
  unwoken_is_steady c f t s k due = from_parts f t (parts_steady (active_parts a f t) s k (past_left c (least_of (noted (waiting a) (active_parts a f t))) due))
