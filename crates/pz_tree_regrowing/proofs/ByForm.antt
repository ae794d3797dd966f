-- What becomes of each form, once one of its parts has become another.
use Rattle.std.proofs.Common.{◌≡◌, ◌≤◌, ℕ, zero, suc, ◌+◌, Bool, true, false, ◌&&◌, List, [], ◌∷◌, ◌++◌, Option, Some, None, refl, ap, sym, ◌∙◌, subst, arith}
use Rattle.std.specs.Prelude.{slice_index_or, if◌then◌else◌}
use Rattle.pz_nodes_shapes.specs.Rose.{none, gone, more, Map, roots, pick, joined, width, present, alone}
use Rattle.pz_nodes_shapes.specs.Rose as rose
use Rattle.pz_clock.specs.Shifts.{ShiftView}
use Rattle.pz_nodes_shapes.specs.Change.{Change, no_key, Holds, BecomesOption}
use Rattle.pz_nodes_shapes.proofs.Frames.{then_becomes, taken_away}
use Rattle.pz_rules.specs.pz_state.Marks.{Seen, changed}
use Rattle.pz_classes_code.specs.declared.step.Step as lying
use Rattle.pz_classes_code.specs.StepView as step
use Rattle.pz_rules.specs.Terms.{Step, Term, done, parallel, abort, idle, Terms, no_terms, and, frames_in, frames_in_all, term_at}
use Rattle.pz_rules.specs.Settings.{Process, left_by, Home}
use Rattle.pz_rules.specs.Opening.{opened_all}
use Rattle.pz_rules.specs.Leaving as leaving
use Rattle.pz_rules.specs.Leaving.{replaced, is_done, all_done, around}
use Rattle.pz_rules.specs.Becoming.{Became}
use Rattle.pz_tree_nodes.specs.pz_tree_standing.Heads as heads
use Rattle.pz_tree_nodes.specs.pz_tree_standing.Heads.{inner_clock}
use Rattle.pz_tree_nodes.specs.pz_tree_standing.Standing.{terms_of}
use Rattle.pz_tree_nodes.specs.declared.kept.Kept.{Kept}
use Rattle.pz_tree_nodes.specs.declared.node.Head.TheVariants as kind
use Rattle.pz_tree_nodes.specs.declared.node.What.{What}
use Rattle.pz_tree_nodes.specs.Keeping.{joined as kept_joined, raised}
use Rattle.pz_tree_nodes.specs.View.{Plant, Plants, shapes_of, term_in, term_in_option}
use Rattle.pz_tree_nodes.specs.Tended.{TendedOption}
use Rattle.pz_tree_nodes.specs.Planting.{nodes_of, nodes_of_all, root_of, Planted}
use Rattle.pz_tree_regrowing.specs.Costs.{living, if_done}
use Rattle.pz_tree_regrowing.specs.Regrowing.{InTime, at_work}
use Rattle.pz_tree_regrowing.specs.devices.Keeping.{kept_at, kept_in, kept_in_all, kept_behind}
use Rattle.pz_tree_regrowing.specs.devices.Levels.{KidsTended, kid_terms, before, after, Finished, there, all_there, IsWritten, IsFree, AloneRule, StillRule, LosingRule, ChangingRule, are_gone}
use Rattle.pz_tree_regrowing.proofs.Kids.{replaced_twice, replaced_same, width_seen, picked_root, picked_term, picked_tended, kids_whole, kept_read, kept_all_read}
use Rattle.pz_tree_regrowing.proofs.Leaving.{in_place, sequence_stays, aborted_stays, interrupted_stays, joined_done, joined_stays}
use Rattle.pz_tree_regrowing.proofs.Others.{one_left}
use Rattle.pz_tree_regrowing.proofs.Tending.{some_undone}
use Rattle.pz_tree_regrowing.proofs.Finishing.{append_none, key_done, key_undone, kept_over, alone_finished}

-- ------------------------------------------------------------ one child, or two

pub one_kid : (ps : Plants) → width ps ≡ 1 → ps ≡ joined (pick ps 0) none
one_kid none p = absurd (omega (arith, p))
one_kid (gone none) p = refl
one_kid (more s none) p = refl
one_kid (gone (gone ss)) p = absurd (omega (arith, p))
one_kid (gone (more t ss)) p = absurd (omega (arith, p))
one_kid (more s (gone ss)) p = absurd (omega (arith, p))
one_kid (more s (more t ss)) p = absurd (omega (arith, p))

pub one_key : (ps : Plants) (keys : List (Option ℕ)) → width ps ≡ 1 → roots ps ≡ keys → roots ps ≡ slice_index_or keys 0 None ∷ []
one_key ps keys p e = by ps p ∙ ap (λ z. slice_index_or z 0 None ∷ []) e
  where
    by : (ps : Plants) → width ps ≡ 1 → roots ps ≡ slice_index_or (roots ps) 0 None ∷ []
    by none p = absurd (omega (arith, p))
    by (gone none) p = refl
    by (more s none) p = refl
    by (gone (gone ss)) p = absurd (omega (arith, p))
    by (gone (more t ss)) p = absurd (omega (arith, p))
    by (more s (gone ss)) p = absurd (omega (arith, p))
    by (more s (more t ss)) p = absurd (omega (arith, p))

-- the terms of two children
pub two_terms : (h : heads.Head) (c : ℕ) (ps : Plants) → width ps ≡ 2 → kid_terms h c ps ≡ and (term_at (kid_terms h c ps) 0) (and (term_at (kid_terms h c ps) 1) no_terms)
two_terms h c none p = absurd (omega (arith, p))
two_terms h c (gone ps) p = ap (and done) (last 1 ps (omega (arith, p)))
  where
    last : (i : ℕ) (qs : Plants) → width qs ≡ 1 → terms_of h c i (shapes_of qs) ≡ and (term_at (terms_of h c i (shapes_of qs)) 0) no_terms
    last i none q = absurd (omega (arith, q))
    last i (gone none) q = refl
    last i (more s none) q = refl
    last i (gone (gone ss)) q = absurd (omega (arith, q))
    last i (gone (more t ss)) q = absurd (omega (arith, q))
    last i (more s (gone ss)) q = absurd (omega (arith, q))
    last i (more s (more t ss)) q = absurd (omega (arith, q))
two_terms h c (more s ps) p = ap (and (term_in (inner_clock h 0 c) s)) (last 1 ps (omega (arith, p)))
  where
    last : (i : ℕ) (qs : Plants) → width qs ≡ 1 → terms_of h c i (shapes_of qs) ≡ and (term_at (terms_of h c i (shapes_of qs)) 0) no_terms
    last i none q = absurd (omega (arith, q))
    last i (gone none) q = refl
    last i (more s none) q = refl
    last i (gone (gone ss)) q = absurd (omega (arith, q))
    last i (gone (more t ss)) q = absurd (omega (arith, q))
    last i (more s (gone ss)) q = absurd (omega (arith, q))
    last i (more s (more t ss)) q = absurd (omega (arith, q))

-- ------------------------------------------------------------ a sequence

pub sequence_goes_on : (home : Home) (c k i : ℕ) (rest : List lying.Step) (left : Option ℕ) (keys : List (Option ℕ)) (m n : Map What) (kept open_kept : Kept) (s : Seen) (fresh : List ℕ) (old mid new : ℕ)
    → (left ≡ None → ⊥) → keys ≡ left ∷ [] → open_kept ≡ kept_in m left → kept ≡ raised open_kept
    → ((m k ≡ None → ⊥) → IsWritten m n k (kind.Seq rest) keys kept)
    → mid ≡ old + there left → new ≡ mid + 1
    → ChangingRule home c k (heads.sequence (step.sequence_view rest)) (left ∷ []) i (Some k) m n s s fresh fresh old new
sequence_goes_on home c k i rest left keys m n kept open_kept s fresh old mid new some is_keys read keeps written tick tock f g m0 was ps t hand e w may time =
    let h = heads.sequence (step.sequence_view rest) in
    let first : slice_index_or (roots ps) 0 None ≡ left = ap (λ z. slice_index_or z 0 None) e in
    let undone = key_undone f h c ps 0 hand.tended (λ q. some (sym first ∙ q)) in
    subst (λ z. Finished home f c m0 was h ps z t (Some k) (at_work m s g fresh old) (at_work n s g fresh new)) (sym may)
    (kept_over home f c k h 0 m n s g fresh old new (kind.Seq rest) keys kept m0 was ps t hand.holds (e ∙ sym is_keys) hand.parts hand.fits hand.tended tt (written hand.holds.there)
    (keeps ∙ ap raised (read ∙ ap (kept_in m) (sym first) ∙ kept_read m ps 0 hand.holds.stand))
    (sequence_stays home f s.held (term_at (replaced (kid_terms h c ps) 0 t) 0) (step.sequence_view rest) 0 (after h c ps 0) undone)
    refl (ap (λ b. if b then frames_in (opened_all home (step.sequence_view rest) s.held).term else []) undone) (few left tick) (subst (λ z. InTime c (before h c ps z t) (after h c ps z)) may time))
  where
    few : (o : Option ℕ) → mid ≡ old + there o → new ≤ old + (4 + 0)
    few None q = omega (arith, q, tock)
    few (Some j) q = omega (arith, q, tock)

pub sequence_ends : (home : Home) (c k i : ℕ) (rest : List lying.Step) (left out : Option ℕ) (m m1 n : Map What) (x : Term) (s t : Seen) (fresh grown : List ℕ) (old mid new : ℕ)
    → left ≡ None → IsFree m m1 k → mid ≡ old + 1
    → Became (opened_all home (step.sequence_view rest) s.held) x s t → Planted m1 n c x out → grown ≡ fresh ++ frames_in x → new ≡ mid + nodes_of x
    → ChangingRule home c k (heads.sequence (step.sequence_view rest)) (left ∷ []) i out m n s t fresh grown old new
sequence_ends home c k i rest left out m m1 n x s t fresh grown old mid new gone_left free tick became planted gains tock f g m0 was ps u hand e w may time =
    let h = heads.sequence (step.sequence_view rest) in
    let first : slice_index_or (roots ps) 0 None ≡ None = ap (λ z. slice_index_or z 0 None) e ∙ gone_left in
    let over : after h c ps 0 ≡ done = key_done h c ps 0 first in
    let whole = before h c ps 0 u in
    let opens : around home f s.held whole 0 (after h c ps 0) ≡ opened_all home (step.sequence_view rest) s.held = ap (around home f s.held whole 0) over in
    let holds : Holds m0 m was k (joined (pick ps 0) none) = subst (Holds m0 m was k) (one_kid ps (sym (width_seen ps) ∙ hand.parts)) hand.holds in
    let nothing : pick ps 0 ≡ None = root_none (pick ps 0) (sym (picked_root ps 0) ∙ first) in
    let empty : Change m0 m1 was no_key = subst (BecomesOption m0 m1 was) nothing (one_left m0 m m1 was k (pick ps 0) holds free.vacant free.others) in
    let size : nodes_of x ≡ if_done (after h c ps 0) (nodes_of (opened_all home (step.sequence_view rest) s.held).term) = ap nodes_of became.term ∙ ap (λ z. if_done z (nodes_of (opened_all home (step.sequence_view rest) s.held).term)) (sym over) in
    subst (λ z. Finished home f c m0 was h ps z u out (at_work m s g fresh old) (at_work n t g grown new)) (sym may)
    (record {
      plant = planted.plant;
      under = planted.under;
      becomes = then_becomes m0 m1 n was planted.plant empty planted.made;
      tended = planted.tended f;
      means = record { term = sym planted.means ∙ became.term ∙ ap (λ (q : Process). q.term) (sym opens); state = became.state ∙ ap (λ (q : Process). changed s q.state) (sym opens) };
      lost = sym (append_none g);
      gained = gains ∙ ap (λ z. fresh ++ frames_in z) became.term ∙ ap (λ z. fresh ++ (if is_done z then frames_in (opened_all home (step.sequence_view rest) s.held).term else [])) (sym over);
      ticks = omega (arith, tick, tock, size);
    })
  where
    root_none : (y : Option Plant) → root_of y ≡ None → y ≡ None
    root_none None r = refl
    root_none (Some p) r = absurd cc

-- ------------------------------------------------------------ parts side by side

gone_done : (f : ℕ) (h : heads.Head) (c i : ℕ) (ps : Plants) → KidsTended f h c i ps → are_gone (roots ps) ≡ all_done (terms_of h c i (shapes_of ps))
gone_done f h c i none t = refl
gone_done f h c i (gone ps) t = gone_done f h c (suc i) ps t
gone_done f h c i (more p ps) t = ap (λ b. b && all_done (terms_of h c (suc i) (shapes_of ps))) (sym (some_undone (inner_clock h i c) p t.0.sound.whole))

there_living : (f : ℕ) (h : heads.Head) (c i : ℕ) (ps : Plants) → KidsTended f h c i ps → all_there (roots ps) ≡ living (terms_of h c i (shapes_of ps))
there_living f h c i none t = refl
there_living f h c i (gone ps) t = (let r : all_there (roots ps) ≡ living (terms_of h c (suc i) (shapes_of ps)) = there_living f h c (suc i) ps t in omega (arith, r))
there_living f h c i (more p ps) t = λ n. (if sym (some_undone (inner_clock h i c) p t.0.sound.whole) n then 0 else 1) + there_living f h c (suc i) ps t.1 n

living_but : (ts : Terms) (i : ℕ) → living ts ≤ suc (living (replaced ts i done))
living_but no_terms i = omega arith
living_but (and t ts) zero = by (is_done t)
  where
    by : (b : Bool) → (if b then 0 else 1) + living ts ≤ suc (0 + living ts)
    by true = omega arith
    by false = omega arith
living_but (and t ts) (suc i) = omega (arith, living_but ts i)

none_present : (ps : Plants) → are_gone (roots ps) ≡ true → (present ps ≡ 0) × (alone ps ≡ None)
none_present none e = (refl, refl)
none_present (gone ps) e = none_present ps e
none_present (more p ps) e = absurd cc

pub parallel_goes_on : (c k i : ℕ) (keys : List (Option ℕ)) (m n : Map What) (kept : Kept) (old mid new : ℕ)
    → are_gone keys ≡ false → kept ≡ raised (kept_in_all m keys)
    → ((m k ≡ None → ⊥) → IsWritten m n k kind.Par keys kept)
    → mid ≡ old + all_there keys → new ≡ mid + 1
    → StillRule c k heads.parallel keys i (Some k) m n old new
parallel_goes_on c k i keys m n kept old mid new some keeps written tick tock home f s g fresh m0 was ps t hand e w may time =
    let ts = kid_terms heads.parallel c ps in
    let same : replaced (replaced ts i t) i (after heads.parallel c ps i) ≡ ts = replaced_twice ts i t (term_at ts i) ∙ replaced_same ts i in
    let undone : all_done ts ≡ false = sym (gone_done f heads.parallel c 0 ps hand.tended) ∙ ap are_gone e ∙ some in
    kept_over home f c k heads.parallel i m n s g fresh old new kind.Par keys kept m0 was ps t hand.holds e hand.parts hand.fits hand.tended tt (written hand.holds.there)
    (keeps ∙ ap raised (ap (kept_in_all m) (sym e) ∙ kept_all_read m ps hand.holds.stand))
    (ap (λ z. left_by s.held (leaving.joined z)) same ∙ ap (left_by s.held) (joined_stays ts undone))
    refl refl
    (let r : all_there keys ≡ living ts = ap all_there (sym e) ∙ there_living f heads.parallel c 0 ps hand.tended in
    let b : living (replaced (replaced ts i t) i done) ≡ living (replaced ts i done) = ap living (replaced_twice ts i t done) in
    omega (arith, tick, tock, r, b, living_but ts i)) time

pub parallel_ends : (c k i : ℕ) (keys : List (Option ℕ)) (m n : Map What) (old new : ℕ)
    → are_gone keys ≡ true → IsFree m n k → new ≡ old + 1
    → StillRule c k heads.parallel keys i None m n old new
parallel_ends c k i keys m n old new all free tick home f s g fresh m0 was ps t hand e w may time =
    let ts = kid_terms heads.parallel c ps in
    let same : replaced (replaced ts i t) i (after heads.parallel c ps i) ≡ ts = replaced_twice ts i t (term_at ts i) ∙ replaced_same ts i in
    let over : all_done ts ≡ true = sym (gone_done f heads.parallel c 0 ps hand.tended) ∙ ap are_gone e ∙ all in
    let gone_all = none_present ps (ap are_gone e ∙ all) in
    let is : around home f s.held (parallel (replaced ts i t)) i (after heads.parallel c ps i) ≡ left_by s.held done = ap (λ z. left_by s.held (leaving.joined z)) same ∙ ap (left_by s.held) (joined_done ts over) in
    record {
      plant = None;
      under = refl;
      becomes = taken_away m0 m n was k ps None hand.holds free.vacant free.others (omega (arith, gone_all.0)) gone_all.1;
      tended = tt;
      means = in_place (around home f s.held (parallel (replaced ts i t)) i (after heads.parallel c ps i)) done s is;
      lost = sym (append_none g);
      gained = sym (append_none fresh);
      ticks = omega (arith, tick);
    }

-- ------------------------------------------------------------ what has acted is left alone

pub select_ends : (c k i : ℕ) (keys : List (Option ℕ)) (out : Option ℕ) (m n : Map What) (lost found : List ℕ) (old new : ℕ) → AloneRule m n k keys i out lost found old new
    → LosingRule c k heads.select keys i out m n lost found old new
select_ends c k i keys out m n lost found old new rule home f s fresh m0 was ps t hand e w may time =
    let ts = kid_terms heads.select c ps in
    alone_finished home f c k heads.select i m n s lost found fresh old new out m0 was ps t (rule m0 was ps hand.holds e) (kids_whole f heads.select c 0 ps hand.tended) (picked_tended f heads.select c 0 ps i hand.tended)
    (ap (left_by s.held) (picked_term heads.select c 0 ps i))
    (ap frames_in_all (replaced_twice ts i t done)) refl
    (let b : nodes_of_all (replaced (replaced ts i t) i done) ≡ nodes_of_all (replaced ts i done) = ap nodes_of_all (replaced_twice ts i t done) in omega (arith, b))

-- the first of two is done, or the second has acted and ends the first
module _ (h : heads.Head) (c : ℕ) (ps : Plants) (two : width ps ≡ 2) where
  pub second_frames : frames_in (term_at (kid_terms h c ps) 1) ≡ frames_in_all (replaced (kid_terms h c ps) 0 done)
  second_frames = sym (append_none (frames_in (term_at (kid_terms h c ps) 1))) ∙ ap (λ z. frames_in_all (replaced z 0 done)) (sym (two_terms h c ps two))

  pub first_frames : frames_in (term_at (kid_terms h c ps) 0) ≡ frames_in_all (replaced (kid_terms h c ps) 1 done)
  first_frames = sym (append_none (frames_in (term_at (kid_terms h c ps) 0))) ∙ ap (λ z. frames_in_all (replaced z 1 done)) (sym (two_terms h c ps two))

  pub second_nodes : nodes_of_all (replaced (kid_terms h c ps) 0 done) ≡ nodes_of (term_at (kid_terms h c ps) 1)
  second_nodes = ap (λ z. nodes_of_all (replaced z 0 done)) (two_terms h c ps two) ∙ (let q : 0 + (nodes_of (term_at (kid_terms h c ps) 1) + 0) ≡ nodes_of (term_at (kid_terms h c ps) 1) = omega arith in q)

  pub first_nodes : nodes_of_all (replaced (kid_terms h c ps) 1 done) ≡ nodes_of (term_at (kid_terms h c ps) 0)
  first_nodes = ap (λ z. nodes_of_all (replaced z 1 done)) (two_terms h c ps two) ∙ (let q : nodes_of (term_at (kid_terms h c ps) 0) + (0 + 0) ≡ nodes_of (term_at (kid_terms h c ps) 0) = omega arith in q)

  -- the other of them stays what it was
  pub second_stays : (t : Term) → term_at (replaced (kid_terms h c ps) 0 t) 1 ≡ term_at (kid_terms h c ps) 1
  second_stays t = ap (λ z. term_at (replaced z 0 t) 1) (two_terms h c ps two)

  pub first_stays : (t : Term) → term_at (replaced (kid_terms h c ps) 1 t) 0 ≡ term_at (kid_terms h c ps) 0
  first_stays t = ap (λ z. term_at (replaced z 1 t) 0) (two_terms h c ps two)

-- ------------------------------------------------------------ abort, and the first part of an interrupt

-- two children by their keys
seconds : (m : Map What) (ps : Plants) (keys : List (Option ℕ)) (j : ℕ) → rose.StandAll m ps → roots ps ≡ keys → kept_in m (slice_index_or keys j None) ≡ kept_at ps j
seconds m ps keys j st e = ap (λ z. kept_in m (slice_index_or z j None)) (sym e) ∙ kept_read m ps j st

pub few_read : (a b : Option ℕ) (old mid last new : ℕ) → mid ≡ old + there a → last ≡ mid + there b → new ≡ last + 1 → new ≤ old + (4 + 0)
few_read None None old mid last new p q r = omega (arith, p, q, r)
few_read None (Some y) old mid last new p q r = omega (arith, p, q, r)
few_read (Some x) None old mid last new p q r = omega (arith, p, q, r)
few_read (Some x) (Some y) old mid last new p q r = omega (arith, p, q, r)

pub abort_second : (c k i : ℕ) (keys : List (Option ℕ)) (out : Option ℕ) (m n : Map What) (lost found : List ℕ) (old new : ℕ) → (i ≡ 0 → ⊥) → AloneRule m n k keys i out lost found old new
    → LosingRule c k heads.abort keys i out m n lost found old new
abort_second c k zero keys out m n lost found old new other rule home f s fresh m0 was ps t hand e w may time = absurd (other refl)
abort_second c k (suc zero) keys out m n lost found old new other rule home f s fresh m0 was ps t hand e w may time =
    let h = heads.abort in
    let ts = kid_terms h c ps in
    let two : width ps ≡ 2 = sym (width_seen ps) ∙ hand.parts in
    alone_finished home f c k h 1 m n s lost found fresh old new out m0 was ps t (rule m0 was ps hand.holds e) (kids_whole f h c 0 ps hand.tended) (picked_tended f h c 0 ps 1 hand.tended)
    (ap (left_by s.held) (picked_term h c 0 ps 1))
    (ap frames_in (first_stays h c ps two t) ∙ first_frames h c ps two) refl
    (let a = ap nodes_of (first_stays h c ps two t) in let b = first_nodes h c ps two in omega (arith, a, b))
abort_second c k (suc (suc i)) keys out m n lost found old new other rule home f s fresh m0 was ps t hand e w may time = absurd (omega (arith, may))

pub abort_ends : (c k : ℕ) (keys : List (Option ℕ)) (out : Option ℕ) (m n : Map What) (lost found : List ℕ) (old new : ℕ) → slice_index_or keys 0 None ≡ None → AloneRule m n k keys 0 out lost found old new
    → LosingRule c k heads.abort keys 0 out m n lost found old new
abort_ends c k keys out m n lost found old new none_left rule home f s fresh m0 was ps t hand e w may time =
    let h = heads.abort in
    let ts = kid_terms h c ps in
    let two : width ps ≡ 2 = sym (width_seen ps) ∙ hand.parts in
    let u = term_at (replaced ts 0 t) 1 in
    let over : after h c ps 0 ≡ done = key_done h c ps 0 (ap (λ z. slice_index_or z 0 None) e ∙ none_left) in
    alone_finished home f c k h 0 m n s lost found fresh old new out m0 was ps t (rule m0 was ps hand.holds e) (kids_whole f h c 0 ps hand.tended) (picked_tended f h c 0 ps 0 hand.tended)
    (ap (λ x. left_by s.held (leaving.aborted u x)) over ∙ ap (left_by s.held) (sym over) ∙ ap (left_by s.held) (picked_term h c 0 ps 0))
    (ap (λ x. if is_done x then frames_in u else []) over ∙ ap frames_in (second_stays h c ps two t) ∙ second_frames h c ps two) refl
    (let a : if_done (after h c ps 0) (nodes_of u) ≡ nodes_of (term_at ts 1) = ap (λ x. if_done x (nodes_of u)) over ∙ ap nodes_of (second_stays h c ps two t) in let b = second_nodes h c ps two in omega (arith, a, b))

pub abort_goes_on : (c k : ℕ) (keys : List (Option ℕ)) (m n : Map What) (first second kept : Kept) (gathered : List ℕ) (old mid last new : ℕ)
    → (slice_index_or keys 0 None ≡ None → ⊥) → first ≡ kept_in m (slice_index_or keys 0 None) → second ≡ kept_in m (slice_index_or keys 1 None) → kept ≡ raised (kept_joined first second)
    → ((m k ≡ None → ⊥) → IsWritten m n k kind.Abort keys kept)
    → mid ≡ old + there (slice_index_or keys 0 None) → last ≡ mid + there (slice_index_or keys 1 None) → new ≡ last + 1
    → LosingRule c k heads.abort keys 0 (Some k) m n gathered gathered old new
abort_goes_on c k keys m n first second kept gathered old mid last new some read further keeps written tick tock tack home f s fresh m0 was ps t hand e w may time =
    let h = heads.abort in
    let ts = kid_terms h c ps in
    let two : width ps ≡ 2 = sym (width_seen ps) ∙ hand.parts in
    let undone = key_undone f h c ps 0 hand.tended (λ q. some (ap (λ z. slice_index_or z 0 None) (sym e) ∙ q)) in
    kept_over home f c k h 0 m n s gathered fresh old new kind.Abort keys kept m0 was ps t hand.holds e hand.parts hand.fits hand.tended tt (written hand.holds.there)
    (keeps ∙ (λ j. raised (kept_joined ((read ∙ seconds m ps keys 0 hand.holds.stand e) j) ((further ∙ seconds m ps keys 1 hand.holds.stand e) j))))
    (ap (left_by s.held) (aborted_stays (term_at (replaced ts 0 t) 1) (after h c ps 0) undone) ∙ ap (λ z. left_by s.held (abort (after h c ps 0) z)) (second_stays h c ps two t))
    (ap (λ b. if b then frames_in (term_at (replaced ts 0 t) 1) else []) undone) refl
    (few_read (slice_index_or keys 0 None) (slice_index_or keys 1 None) old mid last new tick tock tack) time

pub idle_ends : (c k : ℕ) (again : Step) (shift : ShiftView) (keys : List (Option ℕ)) (out : Option ℕ) (m n : Map What) (lost found : List ℕ) (old new : ℕ) → slice_index_or keys 0 None ≡ None → AloneRule m n k keys 0 out lost found old new
    → LosingRule c k (heads.idle again shift) keys 0 out m n lost found old new
idle_ends c k again shift keys out m n lost found old new none_left rule home f s fresh m0 was ps t hand e w may time =
    let h = heads.idle again shift in
    let ts = kid_terms h c ps in
    let two : width ps ≡ 2 = sym (width_seen ps) ∙ hand.parts in
    let u = term_at (replaced ts 0 t) 1 in
    let left : slice_index_or (roots ps) 0 None ≡ None = ap (λ z. slice_index_or z 0 None) e ∙ none_left in
    let over : after h c ps 0 ≡ done = key_done h c ps 0 left in
    let nothing : pick ps 0 ≡ None = no_root (pick ps 0) (sym (picked_root ps 0) ∙ left) in
    alone_finished home f c k h 0 m n s lost found fresh old new out m0 was ps t (rule m0 was ps hand.holds e) (kids_whole f h c 0 ps hand.tended) (subst (TendedOption f c) (sym nothing) tt)
    (ap (λ x. left_by s.held (leaving.interrupted u again x)) over ∙ ap (λ x. left_by s.held (term_in_option c x)) (sym nothing))
    (ap (λ x. if is_done x then frames_in u else []) over ∙ ap frames_in (second_stays h c ps two t) ∙ second_frames h c ps two) refl
    (let a : if_done (after h c ps 0) (nodes_of u) ≡ nodes_of (term_at ts 1) = ap (λ x. if_done x (nodes_of u)) over ∙ ap nodes_of (second_stays h c ps two t) in let b = second_nodes h c ps two in omega (arith, a, b))
  where
    no_root : (y : Option Plant) → root_of y ≡ None → y ≡ None
    no_root None r = refl
    no_root (Some p) r = absurd cc

pub idle_goes_on : (c k : ℕ) (again : lying.Step) (shift : ShiftView) (keys : List (Option ℕ)) (m n : Map What) (first second kept : Kept) (gathered : List ℕ) (old mid last new : ℕ)
    → (slice_index_or keys 0 None ≡ None → ⊥) → first ≡ kept_in m (slice_index_or keys 0 None) → second ≡ kept_in m (slice_index_or keys 1 None) → kept ≡ raised (kept_joined (kept_behind shift.behind first) second)
    → ((m k ≡ None → ⊥) → IsWritten m n k (kind.Idle again shift) keys kept)
    → mid ≡ old + there (slice_index_or keys 0 None) → last ≡ mid + there (slice_index_or keys 1 None) → new ≡ last + 1
    → LosingRule c k (heads.idle (step.view again) shift) keys 0 (Some k) m n gathered gathered old new
idle_goes_on c k again shift keys m n first second kept gathered old mid last new some read further keeps written tick tock tack home f s fresh m0 was ps t hand e w may time =
    let h = heads.idle (step.view again) shift in
    let ts = kid_terms h c ps in
    let two : width ps ≡ 2 = sym (width_seen ps) ∙ hand.parts in
    let undone = key_undone f h c ps 0 hand.tended (λ q. some (ap (λ z. slice_index_or z 0 None) (sym e) ∙ q)) in
    kept_over home f c k h 0 m n s gathered fresh old new (kind.Idle again shift) keys kept m0 was ps t hand.holds e hand.parts hand.fits hand.tended tt (written hand.holds.there)
    (keeps ∙ (λ j. raised (kept_joined (kept_behind shift.behind ((read ∙ seconds m ps keys 0 hand.holds.stand e) j)) ((further ∙ seconds m ps keys 1 hand.holds.stand e) j))))
    (ap (left_by s.held) (interrupted_stays (term_at (replaced ts 0 t) 1) (step.view again) (after h c ps 0) undone) ∙ ap (λ z. left_by s.held (idle (after h c ps 0) z (step.view again))) (second_stays h c ps two t))
    (ap (λ b. if b then frames_in (term_at (replaced ts 0 t) 1) else []) undone) refl
    (few_read (slice_index_or keys 0 None) (slice_index_or keys 1 None) old mid last new tick tock tack) time
