-- What a guard leaves whose clock is behind.
use Rattle.std.proofs.Common.{◌≡◌, ◌≤◌, ◌+◌, ◌-◌, ℕ, Bool, true, List, [], ◌∷◌, Option, Some, None, refl, ap, sym, ◌∙◌, subst, arith}
use Rattle.std.specs.Prelude.{slice_index_or}
use Rattle.pz_clock.specs.Shifts.{ShiftView, is_running, local, behind_since, ShiftFits}
use Rattle.pz_nodes_shapes.specs.Rose.{node, none, gone, more, Map, root, roots, pick, joined, has, StandAll}
use Rattle.pz_nodes_shapes.specs.Change.{Holds, BecomesOption}
use Rattle.pz_nodes_shapes.proofs.Frames.{taken_in_hand, worked, put_back, taken_away}
use Rattle.pz_rules.specs.Settings.{left_by}
use Rattle.pz_tree_nodes.specs.pz_tree_standing.Heads as heads
use Rattle.pz_tree_nodes.specs.pz_tree_standing.Heads.{inner_frame}
use Rattle.pz_tree_nodes.specs.pz_tree_standing.Standing.{HeadFits}
use Rattle.pz_tree_nodes.specs.pz_tree_standing.Whole.{IsNoShift, HasParts, OneInside}
use Rattle.pz_tree_nodes.specs.declared.kept.Kept.{Kept}
use Rattle.pz_tree_nodes.specs.declared.node.Head.TheVariants as kind
use Rattle.pz_tree_nodes.specs.declared.node.What.{What}
use Rattle.pz_tree_nodes.specs.View.{Plant, Plants, head_view, shapes_of, term_in, term_in_option}
use Rattle.pz_tree_nodes.specs.Tended.{Tended, TendedOption}
use Rattle.pz_tree_nodes.specs.Planting.{root_of}
use Rattle.pz_rules.specs.Short.{IsShort}
use Rattle.pz_tree_nodes.specs.pz_tree_standing.Soon.{HasRoom}
use Rattle.pz_tree_regrowing.specs.devices.Keeping.{kept_in, kept_of_node, kept_behind}
use Rattle.pz_tree_regrowing.specs.devices.Levels.{KidsTended, IsFree, IsShiftAt, IsNoShiftAt, runs_behind, IsPutOver, ShiftRule, StillRule, after}
use Rattle.pz_tree_regrowing.proofs.LocalClocks.{thawed_within, thawed_local, runs_as}
use Rattle.pz_tree_regrowing.proofs.Kids.{same_node, width_seen, picked_root, picked_term, picked_tended}
use Rattle.pz_tree_regrowing.proofs.Others.{one_left}
use Rattle.pz_tree_regrowing.proofs.Tending.{node_tended, node_kids}
use Rattle.pz_tree_regrowing.proofs.ByForm.{one_kid}
use Rattle.pz_tree_regrowing.proofs.Leaving.{in_place}
use Rattle.pz_tree_regrowing.proofs.Finishing.{append_none}

-- ------------------------------------------------------------ over what is no shift node

-- the topmost node of this one is no shift node
abbrev IsBareTop : Plant → Type 0
IsBareTop (node k x ps) = IsNoShift (head_view x.head)

one_inside : (p : Plant) → IsBareTop p → OneInside (shapes_of (more p none))
one_inside (node k x ps) b = b

put_over : (m0 m n : Map What) (was : ℕ → Bool) (f c k behind : ℕ) (p : Plant) (below out : Option ℕ)
    → Holds m0 m was k (more p none) → Some (root p) ≡ below → behind ≤ c → Tended f (c - behind) p → IsBareTop p → HasRoom c → IsShort (term_in (c - behind) p)
    → IsPutOver m n k behind below out
    → (q : Plant) × (Some (root q) ≡ out) × BecomesOption m0 n was (Some q) × Tended f c q × (term_in c q ≡ term_in (c - behind) p)
put_over m0 m n was f c k behind p below out holds e fits tended bare room short put =
    let w = put.put holds.there in
    let kept = kept_behind behind (kept_in m below) in
    let x : What = record { head = kind.Shifted (runs_behind behind); kept = kept } in
    let keeps : kept_in m below ≡ top p = ap (kept_in m) (sym e) ∙ read p holds.stand in (
      node k x (more p none),
      sym put.under,
      put_back m0 m n was k x (more p none) holds (w.written ∙ ap (λ z. Some (record { what = x; kids = z ∷ [] })) (sym e)) w.others,
      node_tended f c k x (more p none) (one_inside p bare) (fits, refl) (tended, tt) tt (ap (kept_behind behind) keeps ∙ over p) room short,
      refl,
    )
  where
    top : Plant → Kept
    top (node j y qs) = y.kept

    read : (p : Plant) → StandAll m (more p none) → kept_in m (Some (root p)) ≡ top p
    read (node j y qs) st = ap kept_of_node st.1.0

    over : (p : Plant) → kept_behind behind (top p) ≡ Rattle.pz_tree_regrowing.specs.devices.Keeping.kept_formed (heads.shifted (runs_behind behind)) (more p none)
    over (node j y qs) = refl

-- ------------------------------------------------------------ whatever is left

pub nothing_left : (m n : Map What) (k behind c : ℕ) (left : Option ℕ) (old new : ℕ) → left ≡ None → IsFree m n k → new ≡ old + 1 → ShiftRule m n k behind c left None old new
nothing_left m n k behind c left old new e free tick m0 was f None holds r fits tended room short = record {
  plant = None;
  under = refl;
  becomes = one_left m0 m n was k None holds free.vacant free.others;
  tended = tt;
  means = refl;
  ticks = omega (arith, tick);
}
nothing_left m n k behind c left old new e free tick m0 was f (Some p) holds r fits tended room short = absurd (let q : Some (root p) ≡ None = r ∙ e in cc)

pub not_behind : (m n : Map What) (k behind c : ℕ) (left : Option ℕ) (old new : ℕ) → behind ≡ 0 → IsFree m n k → new ≡ old + 1 → ShiftRule m n k behind c left left old new
not_behind m n k behind c left old new e free tick m0 was f x holds r fits tended room short =
    let same : c - behind ≡ c = omega (arith, e) in
    record {
      plant = x;
      under = r;
      becomes = one_left m0 m n was k x holds free.vacant free.others;
      tended = subst (λ z. TendedOption f z x) same tended;
      means = ap (λ z. term_in_option z x) (sym same);
      ticks = omega (arith, tick);
    }

pub bare_left : (m n : Map What) (k kid behind c : ℕ) (left out : Option ℕ) (old mid new : ℕ) → left ≡ Some kid → IsNoShiftAt m kid → IsPutOver m n k behind left out → mid ≡ old + 1 → new ≤ mid + 2
    → ShiftRule m n k behind c left out old new
bare_left m n k kid behind c left out old mid new e bare put tick tock m0 was f None holds r fits tended room short = absurd (let q : None ≡ Some kid = r ∙ e in cc)
bare_left m n k kid behind c left out old mid new e bare put tick tock m0 was f (Some p) holds r fits tended room short =
    let top : IsBareTop p = by p holds.stand (let q : Some (root p) ≡ Some kid = r ∙ e in cc) in
    let o = put_over m0 m n was f c k behind p left out holds r fits tended top room short put in
    record { plant = Some o.0; under = o.1; becomes = o.2; tended = o.3; means = o.4; ticks = omega (arith, tick, tock) }
  where
    by : (p : Plant) → StandAll m (more p none) → root p ≡ kid → IsBareTop p
    by (node j y qs) st q = bare (record { what = y; kids = roots qs }) (ap m (sym q) ∙ st.1.0)

-- a shift node: the two are one
two_shifts : (m0 m m1 n : Map What) (was : ℕ → Bool) (f c k behind by both : ℕ) (below out : Option ℕ) (j : ℕ) (w : What) (s : ShiftView) (qs : Plants)
    → head_view w.head ≡ heads.shifted s → Holds m0 m was k (more (node j w qs) none) → IsFree m m1 j → behind ≤ c
    → OneInside (shapes_of qs) → ShiftFits s (c - behind) × (is_running s ≡ true) → KidsTended f (heads.shifted s) (c - behind) 0 qs
    → by ≡ s.behind → below ≡ slice_index_or (roots qs) 0 None → (behind + by ≤ c → both ≡ behind + by) → HasRoom c → IsShort (term_in (c - behind) (node j w qs)) → IsPutOver m1 n k both below out
    → (q : Plant) × (Some (root q) ≡ out) × BecomesOption m0 n was (Some q) × Tended f c q × (term_in c q ≡ term_in (c - behind) (node j w qs))
two_shifts m0 m m1 n was f c k behind by both below out j w s none is holds free le parts fits kids b e sum has_room short put = absurd parts
two_shifts m0 m m1 n was f c k behind by both below out j w s (gone qs) is holds free le parts fits kids b e sum has_room short put = absurd parts
two_shifts m0 m m1 n was f c k behind by both below out j w s (more (node i z us) (gone qs)) is holds free le parts fits kids b e sum has_room short put = absurd parts
two_shifts m0 m m1 n was f c k behind by both below out j w s (more (node i z us) (more r qs)) is holds free le parts fits kids b e sum has_room short put = absurd parts
two_shifts m0 m m1 n was f c k behind by both below out j w s (more (node i z us) none) is holds free le parts fits kids b e sum has_room short put =
    let q : Plant = node i z us in
    let inner = taken_in_hand m j w (more q none) holds.stand.1 in
    let freed : BecomesOption m m1 (has (node j w (more q none))) (Some q) = taken_away m m m1 (has (node j w (more q none))) j (more q none) (Some q) inner free.vacant free.others (omega arith) refl in
    let held : Holds m0 m1 was k (more q none) = worked m0 m m1 was k (more (node j w (more q none)) none) 0 (Some q) (omega arith) holds freed in
    let shows : local s (c - behind) ≡ (c - behind) - s.behind = thawed_local s (c - behind) fits.0 ∙ ap (λ z. (c - behind) - z) (runs_as s (c - behind) fits.1) in
    let room : s.behind ≤ c - behind = subst (λ z. z ≤ c - behind) (runs_as s (c - behind) fits.1) (thawed_within s (c - behind) fits.0) in
    let total : both ≡ behind + s.behind = sum (omega (arith, b, room, le)) ∙ ap (λ z. behind + z) b in
    let clock : local s (c - behind) ≡ c - both = shows ∙ (let o : (c - behind) - s.behind ≡ c - both = omega (arith, total) in o) in
    let same : term_in (c - both) q ≡ term_in (c - behind) (node j w (more q none)) =
    ap (λ z. term_in z q) (sym clock) ∙ sym (ap (λ h. heads.formed h (c - behind) (Rattle.pz_tree_nodes.specs.pz_tree_standing.Standing.terms_of h (c - behind) 0 (shapes_of (more q none)))) is) in
    let o = put_over m0 m1 n was f c k both q below out held (sym e) (omega (arith, total, room, le)) (subst (λ z. Tended f z q) clock kids.0) parts has_room (subst IsShort (sym same) short) put in
    (o.0, o.1, o.2, o.3, o.4 ∙ same)

pub shift_left : (m m1 n : Map What) (k kid behind c by both : ℕ) (left below out : Option ℕ) (old mid last new : ℕ) → left ≡ Some kid → (behind ≤ c → IsShiftAt m kid (c - behind) by below)
    → IsFree m m1 kid → (behind + by ≤ c → both ≡ behind + by) → IsPutOver m1 n k both below out
    → mid ≡ old + 1 → last ≡ mid + 1 → new ≤ last + 2
    → ShiftRule m n k behind c left out old new
shift_left m m1 n k kid behind c by both left below out old mid last new e shift free sum put tick tock tack m0 was f None holds r fits tended room short = absurd (let q : None ≡ Some kid = r ∙ e in cc)
shift_left m m1 n k kid behind c by both left below out old mid last new e shift free sum put tick tock tack m0 was f (Some (node j w qs)) holds r fits tended room short =
    let at = shift fits in
    let is_kid : j ≡ kid = (let q : Some j ≡ Some kid = r ∙ e in cc) in
    let same : at.was ≡ record { what = w; kids = roots qs } = same_node at.was (record { what = w; kids = roots qs }) (sym at.stands ∙ ap m (sym is_kid) ∙ holds.stand.1.0) in
    let is : head_view w.head ≡ heads.shifted at.shift = ap (λ z. head_view z.what.head) (sym same) ∙ ap head_view at.is in
    let shift_fits : ShiftFits at.shift (c - behind) × (is_running at.shift ≡ true) = subst (λ h. HeadFits h (c - behind)) is tended.sound.fits.0 in
    let o = two_shifts m0 m m1 n was f c k behind by both below out j w at.shift qs is holds (subst (IsFree m m1) (sym is_kid) free) fits
    (subst (λ h. HasParts h (shapes_of qs)) is tended.sound.whole.0)
    shift_fits
    (subst (λ h. KidsTended (inner_frame h f) h (c - behind) 0 qs) is (node_kids f (c - behind) j w qs tended))
    (at.behind shift_fits.0 ∙ runs_as at.shift (c - behind) shift_fits.1)
    (at.child ∙ ap (λ z. slice_index_or z.kids 0 None) same)
    sum room short put in
    record { plant = Some o.0; under = o.1; becomes = o.2; tended = o.3; means = o.4; ticks = omega (arith, tick, tock, tack) }

-- ------------------------------------------------------------ a guard that acts

pub guard_acts : (c k i : ℕ) (test : Rattle.pz_rules.specs.Terms.Code) (at : Rattle.pz_classes_code.specs.pz_syntax.declared.tokens.Pos.Pos) (shift : ShiftView) (keys : List (Option ℕ)) (left out : Option ℕ) (m n : Map What) (behind old new : ℕ)
    → (ShiftFits shift c → behind ≡ behind_since shift.behind shift.since c) → left ≡ slice_index_or keys 0 None → ShiftRule m n k behind c left out old new
    → StillRule c k (heads.guarded test at shift) keys i out m n old new
guard_acts c k i test at shift keys left out m n behind old new is_behind is_left rule home f s g fresh m0 was ps t hand e w may time =
    let h = heads.guarded test at shift in
    let x = pick ps 0 in
    let behind_is = is_behind hand.fits in
    let shows : local shift c ≡ c - behind = thawed_local shift c hand.fits ∙ ap (λ z. c - z) (sym behind_is) in
    let fits : behind ≤ c = subst (λ z. z ≤ c) (sym behind_is) (thawed_within shift c hand.fits) in
    let holds : Holds m0 m was k (joined x none) = subst (Holds m0 m was k) (one_kid ps (sym (width_seen ps) ∙ hand.parts)) hand.holds in
    let under : root_of x ≡ left = sym (picked_root ps 0) ∙ ap (λ z. slice_index_or z 0 None) e ∙ sym is_left in
    let below : after h c ps 0 ≡ term_in_option (c - behind) x = picked_term h c 0 ps 0 ∙ ap (λ z. term_in_option z x) shows in
    let short : IsShort (term_in_option (c - behind) x) = subst IsShort below (subst (λ z. IsShort (after h c ps z)) may time.part) in
    let o = rule m0 was f x holds under fits (subst (λ z. TendedOption f z x) shows (picked_tended f h c 0 ps 0 hand.tended)) time.room short in
    let is : after h c ps 0 ≡ term_in_option c o.plant = below ∙ sym o.means in
    subst (λ z. Rattle.pz_tree_regrowing.specs.devices.Levels.Finished home f c m0 was h ps z t out (Rattle.pz_tree_regrowing.specs.Regrowing.at_work m s g fresh old) (Rattle.pz_tree_regrowing.specs.Regrowing.at_work n s g fresh new)) (sym may)
    (record {
      plant = o.plant;
      under = o.under;
      becomes = o.becomes;
      tended = o.tended;
      means = in_place (left_by s.held (after h c ps 0)) (term_in_option c o.plant) s (ap (left_by s.held) is);
      lost = sym (append_none g);
      gained = sym (append_none fresh);
      ticks = omega (arith, o.ticks);
    })
