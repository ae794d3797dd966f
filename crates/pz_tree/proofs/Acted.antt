-- A tree of which a part acts.
use Rattle.std.proofs.Common.{◌≡◌, ◌≤◌, ◌<◌, ◌+◌, ◌*◌, ℕ, zero, suc, true, false, List, [], ◌∷◌, length, Option, Some, None, Result, Ok, Err, refl, sym, ap, subst, ◌∙◌, arith}
use Rattle.std.specs.Prelude.{slice_get, IsTrue, OnOk, OnErr}
use Rattle.std.specs.Option.{option_map_or}
use Rattle.std.proofs.Math.Bool.{Bool-set}
use Rattle.std.proofs.Math.Nat.{ℕ_set}
use Rattle.std.proofs.Math.Logic.{∥∥₁_prop, ∥∥₁_elim, ∥∥₁_map₂}
use Rattle.std.proofs.lemmas.List.{length-map}
use Rattle.std.proofs.lemmas.Option.{slice_get_within}
use Rattle.pz_rules.specs.pz_syntax.Classes.{DeclTree, ModelTree}
use Rattle.pz_rules.specs.pz_value.declared.value.ClassId.{ClassId}
use Rattle.pz_rules.specs.pz_classes_rules.Kinds.{is_process}
use Rattle.pz_rules.specs.pz_classes_rules.Numbers.{declaration}
use Rattle.pz_rules.specs.pz_classes_rules.SoundBodies.{SoundBodiesFit}
use Rattle.pz_rules.specs.pz_classes_rules.Soundness.{IsSound}
use Rattle.pz_bind.specs.pz_classes.Tables.{HasClass}
use Rattle.pz_bind.specs.pz_classes.declared.classes.Classes.{Classes}
use Rattle.pz_bind.specs.pz_classes.devices.Rows.{AreClasses, rows_from, row_view}
use Rattle.pz_rules.specs.pz_copy.Parcels.{ParcelView}
use Rattle.pz_nodes.specs.Arena.{Arena, find}
use Rattle.pz_nodes_shapes.specs.declared.node.Node.{Node}
use Rattle.pz_nodes_shapes.specs.Rose.{Map, has_option}
use Rattle.pz_nodes_shapes.specs.Change.{BecomesOption}
use Rattle.pz_rules.specs.pz_offer.PlaceOrder.{Place}
use Rattle.pz_rules.specs.pz_offer.declared.trouble.Trouble.{Trouble}
use Rattle.pz_term_processes.specs.pz_part_actions.Homes.{seen_home}
use Rattle.pz_term_processes.specs.pz_part_opening.declared.home.Home.{Home}
use Rattle.pz_term_processes.specs.pz_part_opening.Homes.{home_in, home_view}
use Rattle.pz_term_processes.specs.pz_part_queries.declared.standpoint.Standpoint.{Standpoint}
use Rattle.pz_term_processes.specs.pz_part_queries.Standpoints.{Knows}
use Rattle.pz_rules.specs.Fitting.{TermFits}
use Rattle.pz_rules.specs.Laws.{ProcessesHaveClasses}
use Rattle.pz_rules.specs.Openable.{IsProcessClass}
use Rattle.pz_rules.specs.Settings as rules
use Rattle.pz_rules.specs.Settings.{Context, Process, left_by}
use Rattle.pz_rules.specs.Terms.{Term}
use Rattle.pz_rules.specs.pz_state.Marks.{Seen}
use Rattle.pz_rules.specs.pz_state.States.{StateView}
use Rattle.pz_tree_acting.specs.pz_tree_standing.FrameCounts.{times}
use Rattle.pz_tree_acting.specs.pz_tree_standing.Frames.{open_as, FramesStand}
use Rattle.pz_tree_acting.specs.pz_tree_nodes.declared.node.What.{What}
use Rattle.pz_tree_acting.specs.pz_tree_nodes.View.{Plant, term_in_option}
use Rattle.pz_tree_acting.specs.pz_tree_regrowing.Costs.{on_way}
use Rattle.pz_tree_acting.specs.pz_tree_regrowing.Regrowing.{StandsOption}
use Rattle.pz_rules.specs.Short.{IsShort}
use Rattle.pz_tree_acting.specs.declared.how.How.{How}
use Rattle.pz_tree_acting.specs.Deeds.{able, deed, CanDo, Leaves}
use Rattle.pz_tree_acting.proofs.Calm.{deed_short}
use Rattle.pz_tree_acting.specs.Acting.{Rooted, MayBeDone, ActedOr, ActRule, Answers, TrialRule, TrialSteps}
use Rattle.pz_tree.specs.declared.tree.Tree.{Tree}
use Rattle.pz_tree.specs.Acting.{LeavesSoon}
use Rattle.pz_tree.specs.Trees.{plant_in, term_in, process_in, at_in, IsThere, IsFresh}
use Rattle.pz_tree.proofs.Reading.{Under, its_term, there_by}
use Rattle.pz_tree.proofs.Left.{IsLeft, is_left}

-- ---------------------------------------------------------- its class

rows_count : (m : ModelTree) (n : ℕ) (ds : List DeclTree) → length (rows_from m n ds) ≡ length ds
rows_count m n [] = refl
rows_count m n (d ∷ ds) = ap suc (rows_count m (suc n) ds)

within : (m : ModelTree) (c : ℕ) → IsProcessClass m c → c < suc (length m.decls)
within m zero is = omega arith
within m (suc k) is = by (slice_get m.decls k) refl
  where
    by : (o : Option DeclTree) → slice_get m.decls k ≡ o → suc k < suc (length m.decls)
    by None e = absurd (let no : false ≡ true = subst (λ (o : Option DeclTree). IsTrue (option_map_or is_process o false)) e is in cc)
    by (Some d) e = let w = slice_get_within m.decls k d e in omega (arith, w)

belongs : (m : ModelTree) (classes : Classes) (c : ClassId) → AreClasses m classes → IsProcessClass m c.0 → HasClass classes c
belongs m classes c are is =
    let count : length classes.entries ≡ suc (length m.decls) = sym (length-map classes.entries row_view) ∙ ap (λ xs. length xs) are.rows ∙ ap suc (rows_count m 1 m.decls) in
    subst (λ (n : ℕ). c.0 < n) (sym count) (within m c.0 is)

pub of_process_class : (m : ModelTree) (t : Tree) → ProcessesHaveClasses → ∥ IsFresh m t ∥₁ → IsProcessClass m t.class.0
of_process_class m t law fresh =
    ∥∥₁_elim fresh (Bool-set (option_map_or is_process (declaration m t.class.0) false) true) (λ f.
    subst (IsProcessClass m) (sym f.there.of_model.class) (law m t.process f.there.of_model.place f.there.of_model.is_process))

-- ---------------------------------------------------------- what stands in it

pub rooted : (m : ModelTree) (t : Tree) → IsThere m t → Rooted (find t.nodes) t.root t.clock (plant_in t)
rooted m t there = record { under = there.under; stands = there.stands; tended = there.tended; short = there.short; room = there.room }

stood : (m n : Map What) (p q : Option Plant) → BecomesOption m n (has_option p) q → StandsOption n q
stood m n p None b = tt
stood m n p (Some q) b = b.stands

-- ---------------------------------------------------------- what is left

left_so : (how : How) (parcel : ParcelView) (a : Context) (t : Term) (place : Place) (p : Process) → IsShort t → Leaves a (deed how parcel) t place (Ok p) → IsLeft a.setting.limits.height p
left_so how parcel a t place p short l = is_left a l.pos t place l.left p short (deed_short a how parcel l.frame l.part l.pos l.left l.acts) l.leaves

-- by the context in which the part acts
abbrev pub ActFor : Context → How → Map What → Map What → Option ℕ → Place → Result (Option ℕ) Trouble → Seen → Seen → ℕ → ℕ → Type 0
ActFor a how m n root place result old new begun ended =
    (p : Option Plant) (parcel : ParcelView)
    → Rooted m root a.clock p
    → CanDo (able how parcel) a (term_in_option a.clock p) place
    → FramesStand (term_in_option a.clock p) old.held
    → ActedOr a (deed how parcel) m n p place result old new begun ended

abbrev pub TriesFor : Context → How → Map What → Option ℕ → Place → Result (Unit {0}) Trouble → Type 0
TriesFor a how m root place result =
    (p : Option Plant) (parcel : ParcelView)
    → Rooted m root a.clock p
    → CanDo (able how parcel) a (term_in_option a.clock p) place
    → Answers a (deed how parcel) (term_in_option a.clock p) place result

abbrev pub TriedFor : Context → How → Map What → Option ℕ → Place → ℕ → ℕ → Type 0
TriedFor a how m root place begun ended =
    (p : Option Plant) (parcel : ParcelView)
    → Rooted m root a.clock p
    → CanDo (able how parcel) a (term_in_option a.clock p) place
    → ended ≤ begun + 5 * on_way (term_in_option a.clock p) place

pub frames_merely : (t : Term) (s : StateView) → ∥ FramesStand t s ∥₁ → FramesStand t s
frames_merely t s h n = ∥∥₁_elim h (ℕ_set (times n t) (open_as n s)) (λ (x : FramesStand t s). x n)

pub on_result : {E V A B : Type 0} (r : Result V E) → (A → B) → OnOk r A → OnOk r B
on_result (Ok x) f a = f a
on_result (Err e) f a = tt

-- over these nodes, with this state and root
abbrev pub grown : Tree → Arena (Node What) → Seen → Option ℕ → Tree
grown t n s out = record t { nodes = n; state = s; root = out }

pub record HasActed (m : ModelTree) (t u : Tree) (how : How) (parcel : ParcelView) (place : Place) (begun ended : ℕ) : Type 0 where
  pub there : IsThere m u
  pub soon : LeavesSoon (at_in m t) (deed how parcel) (term_in t) place (process_in u) begun ended
  pub frames : FramesStand (term_in u) u.state.held

module _ (m : ModelTree) (t : Tree) (begun ended : ℕ) where
  acted_so : IsThere m t → (how : How) (parcel : ParcelView) (place : Place) (n : Arena (Node What)) (new : Seen) (out : Option ℕ)
      → ActFor (at_in m t) how (find t.nodes) (find n) t.root place (Ok out) t.state new begun ended → CanDo (able how parcel) (at_in m t) (term_in t) place → FramesStand (term_in t) t.state.held
      → HasActed m t (grown t n new out) how parcel place begun ended
  acted_so there how parcel place n new out rule can frames =
      let r = rule (plant_in t) parcel (rooted m t there) can frames in
      let u : Tree = grown t n new out in
      let under : Under u r.plant = record { under = r.under; stands = stood (find t.nodes) (find n) (plant_in t) r.plant r.becomes } in
      let left = left_so how parcel (at_in m t) (term_in t) place (left_by new.held (term_in_option t.clock r.plant)) there.short r.leaves in
      record {
        there = there_by m u r.plant under (record { place = there.of_model.place; is_process = there.of_model.is_process; class = there.of_model.class }) r.tended left.short there.room left.low;
        soon = record {
          leaves = record {
            frame = r.leaves.frame;
            part = r.leaves.part;
            active = r.leaves.active;
            pos = r.leaves.pos;
            left = r.leaves.left;
            acts = r.leaves.acts;
            leaves = ap (λ (x : Term). let p : Result Process Trouble = Ok (left_by new.held x) in p) (its_term u r.plant under) ∙ r.leaves.leaves;
          };
          ticks = r.ticks;
        };
        frames = subst (λ (x : Term). FramesStand x new.held) (sym (its_term u r.plant under)) r.frames;
      }

  pub acted : IsThere m t → (how : How) (parcel : ParcelView) (place : Place) (n : Arena (Node What)) (new : Seen) (result : Result (Option ℕ) Trouble) (out : Option ℕ) → result ≡ Ok out
      → ActFor (at_in m t) how (find t.nodes) (find n) t.root place result t.state new begun ended → CanDo (able how parcel) (at_in m t) (term_in t) place → FramesStand (term_in t) t.state.held
      → HasActed m t (grown t n new out) how parcel place begun ended
  acted there how parcel place n new result out is rule =
      acted_so there how parcel place n new out (subst (λ (r : Result (Option ℕ) Trouble). ActFor (at_in m t) how (find t.nodes) (find n) t.root place r t.state new begun ended) is rule)

  pub troubled : IsThere m t → (how : How) (parcel : ParcelView) (place : Place) (n : Arena (Node What)) (new : Seen) (result : Result (Option ℕ) Trouble) (trouble : Trouble) → result ≡ Err trouble
      → ActFor (at_in m t) how (find t.nodes) (find n) t.root place result t.state new begun ended → CanDo (able how parcel) (at_in m t) (term_in t) place → FramesStand (term_in t) t.state.held
      → Leaves (at_in m t) (deed how parcel) (term_in t) place (Err trouble)
  troubled there how parcel place n new result trouble is rule can frames =
      subst (λ (r : Result (Option ℕ) Trouble). ActFor (at_in m t) how (find t.nodes) (find n) t.root place r t.state new begun ended) is rule (plant_in t) parcel (rooted m t there) can frames

  pub acted_merely : (how : How) (place : Place) (n : Arena (Node What)) (new : Seen) (result : Result (Option ℕ) Trouble) (out : Option ℕ) → result ≡ Ok out
      → ActFor (at_in m t) how (find t.nodes) (find n) t.root place result t.state new begun ended → FramesStand (term_in t) t.state.held
      → ∥ IsFresh m t ∥₁ → ∥ ((parcel : ParcelView) × CanDo (able how parcel) (at_in m t) (term_in t) place) ∥₁
      → ∥ (IsThere m (grown t n new out) × FramesStand (term_in (grown t n new out)) new.held) ∥₁
  acted_merely how place n new result out is rule frames fresh can =
      ∥∥₁_map₂ fresh can (λ f x. let a = acted f.there how x.0 place n new result out is rule x.1 frames in (a.there, a.frames))

-- at a trouble all is as before
module _ (m : ModelTree) (t : Tree) where
  pub as_before : (n : Arena (Node What)) (s : Seen) (result : Result (Option ℕ) Trouble) (trouble : Trouble) → result ≡ Err trouble → OnErr result ((n ≡ t.nodes) × (s ≡ t.state)) → grown t n s t.root ≡ t
  as_before n s result trouble is stays =
      let same = subst (λ (r : Result (Option ℕ) Trouble). OnErr r ((n ≡ t.nodes) × (s ≡ t.state))) is stays in
      ap (λ (k : Arena (Node What)). grown t k s t.root) same.0 ∙ ap (λ (z : Seen). grown t t.nodes z t.root) same.1

-- ---------------------------------------------------------- from where it is seen

module _ (m : ModelTree) (t : Tree) (here : Standpoint) (home : Home) (at_home : home_view home ≡ home_in m t.class t.limits)
    (limits : here.limits ≡ t.limits) (process : here.process ≡ t.process) (clock : here.clock ≡ t.clock) where
  pub seen_is : seen_home here home t.state.held ≡ at_in m t
  seen_is = λ i. record {
    setting = record { model = ap (λ (h : rules.Home). h.model) at_home i; limits = record (limits i) { edition = ap (λ (h : rules.Home). h.edition) at_home i } };
    process = process i;
    class = ap (λ (h : rules.Home). h.class) at_home i;
    clock = clock i;
    state = t.state.held;
  }

  pub act_for : (how : How) (k n : Map What) (root : Option ℕ) (place : Place) (result : Result (Option ℕ) Trouble) (new : Seen) (begun ended : ℕ)
      → ActRule here home how k n root place result t.state new begun ended → ActFor (at_in m t) how k n root place result t.state new begun ended
  act_for how k n root place result new begun ended rule = subst (λ (x : Context). ActFor x how k n root place result t.state new begun ended) seen_is rule

  pub tries_for : (how : How) (k : Map What) (root : Option ℕ) (place : Place) (result : Result (Unit {0}) Trouble)
      → TrialRule here home how k root place result t.state.held → TriesFor (at_in m t) how k root place result
  tries_for how k root place result rule = subst (λ (x : Context). TriesFor x how k root place result) seen_is rule

  pub steps_for : (how : How) (k : Map What) (root : Option ℕ) (place : Place) (begun ended : ℕ)
      → TrialSteps here home how k root place t.state.held begun ended → TriedFor (at_in m t) how k root place begun ended
  steps_for how k root place begun ended rule = subst (λ (x : Context). TriedFor x how k root place begun ended) seen_is rule

  pub may_be_done : SoundBodiesFit → IsSound m → ProcessesHaveClasses → home.class ≡ t.class → (how : How) (place : Place) → Knows m here → ∥ IsFresh m t ∥₁ → ∥ TermFits m t.class.0 0 (term_in t) ∥₁
      → ∥ ((parcel : ParcelView) × CanDo (able how parcel) (at_in m t) (term_in t) place) ∥₁ → ∥ MayBeDone here home how (find t.nodes) t.root t.state.held place ∥₁
  may_be_done law sound classes same how place knows fresh fits can =
      let is_class = of_process_class m t classes fresh in
      ∥∥₁_elim fresh ∥∥₁_prop (λ f.
      ∥∥₁_elim knows ∥∥₁_prop (λ k.
      ∥∥₁_map₂ fits can (λ fit c. record {
        plant = plant_in t;
        rooted = subst (λ (now : ℕ). Rooted (find t.nodes) t.root now (plant_in t)) (sym clock) (rooted m t f.there);
        parcel = c.0;
        can = subst (λ (x : Context). CanDo (able how c.0) x (term_in_option x.clock (plant_in t)) place) (sym seen_is) c.1;
        fits = ∣ record {
          model = m;
          knows = knows;
          bodies = law m sound;
          belongs = subst (HasClass here.classes.now) (sym same) (belongs m here.classes.now t.class k is_class);
          locals = 0;
          fits =
              subst (λ (now : ℕ). TermFits m home.class.0 0 (term_in_option now (plant_in t))) (sym clock)
              (subst (λ (class : ClassId). TermFits m class.0 0 (term_in t)) (sym same) fit);
        } ∣₁;
      })))
