-- A part of one process acts: what its tree, and all trees, are afterwards.
use Rattle.std.proofs.Common.{◌≡◌, ◌<◌, ℕ, zero, suc, List, [], ◌∷◌, set, get_or, length, Some, Result, Ok, Err, refl, sym, subst, ap, ◌∙◌, arith}
use Rattle.std.specs.Prelude.{slice_get, IfOk, OnOk, OnErr, ⊤}
use Rattle.std.proofs.Math.Logic.{∥∥₁_elim, ∥∥₁_map}
use Rattle.std.proofs.Math.Nat.{ℕ_set}
use Rattle.std.specs.Coded.{Coded-set, le_prop}
use Rattle.std.specs.declared.alloc.AllocError.{AllocError}
use Rattle.std.proofs.lemmas.Option.{same_Some, slice_get_within, slice_get-get_or}
use Rattle.std.proofs.lemmas.List.{length-map}
use Rattle.pz_rules.specs.pz_syntax.Classes.{ModelTree}
use Rattle.pz_rules.specs.pz_syntax.declared.tokens.Pos.{Pos}
use Rattle.pz_bind_levels.specs.Places.{Address}
use Rattle.pz_rules.specs.pz_bind_rules.Nest.{processes, class_at}
use Rattle.pz_rules.specs.pz_classes_rules.Soundness.{IsSound}
use Rattle.pz_rules.specs.pz_copy.Parcels.{ParcelView}
use Rattle.pz_rules.specs.pz_offer.declared.end.End.{End}
use Rattle.pz_rules.specs.pz_offer.declared.trouble.Trouble.{Trouble}
use Rattle.pz_rules.specs.pz_offer.PlaceOrder.{Place}
use Rattle.pz_rules.specs.contracts.limits.Limits as limits_row
use Rattle.pz_rules.specs.declared.limits.Limits.{Limits}
use Rattle.pz_rules.specs.declared.limits.Edition.TheVariants.{Two}
use Rattle.pz_rules.specs.declared.action.Action.{Action}
use Rattle.pz_rules.specs.declared.action.Action.TheVariants.{Internal}
use Rattle.pz_rules.specs.declared.action.Kind.{Kind}
use Rattle.pz_rules.specs.declared.action.Kind.TheVariants.{Skip}
use Rattle.pz_rules.specs.Settings.{Setting, Process, Context, in_state}
use Rattle.pz_rules.specs.Configurations.{IsWhole}
use Rattle.pz_rules.specs.Fitting.{TermFits}
use Rattle.pz_rules.specs.InternalActions.{Performs}
use Rattle.pz_rules.specs.Laws.{StaysFit, LowStays}
use Rattle.pz_rules.specs.Messages.{Hands}
use Rattle.pz_rules.specs.Steps.{Deed, Acts, Next}
use Rattle.pz_sim_laws.specs.Members.{Member, become, process_of, config_of}
use Rattle.pz_sim_laws.specs.Deeds as deeds
use Rattle.pz_sim_laws.specs.Deeds.{Manner}
use Rattle.pz_sim_laws.specs.Laws.{MembersAct, ActionLeadsOn, MembersStay}
use Rattle.pz_tree.specs.Deeds.{Answers}
use Rattle.pz_tree.specs.Deeds.{Ability, CanDo, CanAct, CanSend, Leaves}
use Rattle.pz_tree.specs.pz_tree_standing.Frames.{FramesStand, open_as}
use Rattle.pz_tree.specs.pz_tree_standing.FrameCounts.{times}
use Rattle.pz_tree.specs.declared.tree.Tree.{Tree}
use Rattle.pz_tree.specs.Acting.{answered}
use Rattle.pz_tree.specs.Trees.{IsThere, IsFresh, at_in, term_in, process_in}
use Rattle.pz_sim.specs.Members.{member_of, members_of}
use Rattle.pz_sim.specs.devices.Acting.{MayAct, MayActAt, CanDoAt, IsAfter, After, HasActed, HasTried, reached}
use Rattle.pz_sim.specs.devices.Holding.{AreTrees}
use Rattle.pz_sim.proofs.Replaced.{got_mapped, all_at, members_replaced, AreAlike, are_alike, alike_replaced}

-- One tree

module _ (m : ModelTree) where
  -- it acted, and was asked again
  module _ (t mid u : Tree) (seen : at_in m mid ≡ in_state (at_in m t) (process_in mid).state) (there : ∥ IsThere m mid ∥₁) (stays : IsThere m mid → process_in u ≡ process_in mid) (same : at_in m u ≡ at_in m mid) where
    pub refreshed : ∥ IsFresh m u ∥₁ → FramesStand (term_in mid) (process_in mid).state → IsAfter m t u
    refreshed fresh frames = record {
      seen = same ∙ seen ∙ ap (λ (a : Context). in_state (at_in m t) a.state) (sym same);
      fresh = fresh;
      frames = λ n. ∥∥₁_elim there (ℕ_set (times n (term_in u)) (open_as n (process_in u).state)) (λ h. subst (λ (p : Process). times n p.term ≡ open_as n p.state) (sym (stays h)) (frames n));
    }

    pub left_so : (does : Deed) (place : Place) → Leaves (at_in m t) does (term_in t) place (Ok (process_in mid)) → ∥ Leaves (at_in m t) does (term_in t) place (Ok (process_in u)) ∥₁
    left_so does place leaves = ∥∥₁_map there (λ h. subst (λ (p : Process). Leaves (at_in m t) does (term_in t) place (Ok p)) (sym (stays h)) leaves)

  pub after_clock : (clock : ℕ) (t u : Tree) → at_in m u ≡ in_state (at_in m t) (process_in u).state → clock ≡ t.clock → clock ≡ u.clock
  after_clock clock t u seen same = same ∙ ap (λ (a : Context). a.clock) (sym seen)

  pub becomes : (t u : Tree) → at_in m u ≡ in_state (at_in m t) (process_in u).state → member_of m u ≡ become (member_of m t) (process_in u)
  becomes t u seen = ap (λ (a : Context). let x : Member = record { seen = a; term = term_in u } in x) seen

pub some_there : {X : Type 0} (xs : List X) (k : ℕ) → k < length xs → (x : X) × (slice_get xs k ≡ Some x)
some_there [] k within = absurd (omega (arith, within))
some_there (x ∷ xs) zero within = (x, refl)
some_there (x ∷ xs) (suc k) within = some_there xs k (omega (arith, within))

-- what stands there, put there
pub set_back : {X : Type 0} (xs : List X) (i : ℕ) (x : X) → slice_get xs i ≡ Some x → set xs i x ≡ xs
set_back [] i x is = refl
set_back {X} (z ∷ xs) zero x is = ap (λ (y : X). y ∷ xs) (sym (same_Some z x is))
set_back {X} (z ∷ xs) (suc i) x is = ap (λ (ys : List X). z ∷ ys) (set_back xs i x is)

-- One of all trees

module _ (setting : Setting) (clock : ℕ) (ts : List Tree) (are : AreTrees setting clock ts) (i : ℕ) (t : Tree) (is : slice_get ts i ≡ Some t) where
  pub member_is : slice_get (members_of setting.model ts) i ≡ Some (member_of setting.model t)
  member_is = got_mapped (member_of setting.model) ts i t is

  pub the_place : (place : Address) × (slice_get (processes setting.model) i ≡ Some place)
  the_place =
      let within = slice_get_within ts i t is in
      let many = length-map ts (member_of setting.model) in
      let all = are.members.whole in
      some_there (processes setting.model) i (omega (arith, within, many, all))

  pub seen_so : at_in setting.model t ≡ record { setting = setting; process = i; class = class_at setting.model the_place.0; clock = clock; state = (process_in t).state }
  seen_so = are.members.each i (member_of setting.model t) the_place.0 member_is the_place.1

  pub tree_fits : TermFits setting.model t.class.0 0 (term_in t)
  tree_fits =
      subst (λ (c : ℕ). TermFits setting.model c 0 (term_in t)) (ap (λ (a : Context). a.class) (sym seen_so))
      (are.fit i the_place.0 (process_of (member_of setting.model t)) the_place.1 (got_mapped process_of (members_of setting.model ts) i (member_of setting.model t) member_is))

  pub limits_are : t.limits ≡ setting.limits
  limits_are = ap (λ (a : Context). a.setting.limits) seen_so

  pub may_act : (can : Ability) (place : Place) → CanDo can (at_in setting.model t) (term_in t) place → MayAct setting.model clock can t place
  may_act can place it = record {
    fresh = all_at (IsFresh setting.model) ts i t are.fresh is;
    same_clock = sym (all_at (λ (x : Tree). x.clock ≡ clock) ts i t are.clocks is);
    fits = tree_fits;
    frames = all_at (λ (x : Tree). FramesStand (term_in x) (process_in x).state) ts i t are.frames is;
    it_can = it;
  }

  -- what its part leaves, the configuration says too
  pub acts_so : MembersAct → (manner : Manner) (place : Place) (left : Result Process Trouble) → Leaves (at_in setting.model t) (deeds.deed manner) (term_in t) place left
      → Acts setting (config_of clock (members_of setting.model ts)) (deeds.deed manner) (record { process = i; place = place }) left
  acts_so law manner place left l =
      law setting clock (members_of setting.model ts) manner i (member_of setting.model t) place l.frame l.part l.pos l.left left are.members member_is l.active l.acts l.leaves

-- as many processes as the model has
pub is_whole : (setting : Setting) (clock : ℕ) (ts : List Tree) → AreTrees setting clock ts → IsWhole setting (config_of clock (members_of setting.model ts))
is_whole setting clock ts are = length-map (members_of setting.model ts) process_of ∙ are.members.whole

-- what was reached fits, and is not too high
pub trees_reached : StaysFit → LowStays → (setting : Setting) (clock : ℕ) (ts us : List Tree) (a : Action) → IsSound setting.model → AreTrees setting clock ts
    → Next setting (config_of clock (members_of setting.model ts)) a (Ok (config_of clock (members_of setting.model us))) → AreAlike setting clock us → AreTrees setting clock us
trees_reached fits lows setting clock ts us a sound are next alike = record {
  members = alike.members;
  fresh = alike.fresh;
  clocks = alike.clocks;
  fit = (fits setting (config_of clock (members_of setting.model ts)) (config_of clock (members_of setting.model us)) a 0 sound (is_whole setting clock ts are) are.fit).0 next;
  low = lows setting (config_of clock (members_of setting.model ts)) (config_of clock (members_of setting.model us)) a are.low next;
  frames = alike.frames;
}

-- where a part can do something, it may act

pub may_there : (setting : Setting) (clock : ℕ) (ts : List Tree) (can : Ability) (at : End) → AreTrees setting clock ts → CanDoAt setting.model can ts at → MayActAt setting clock can ts at
may_there setting clock ts can at are x =
    record { tree = x.tree; is = x.is; limits = limits_are setting clock ts are at.process x.tree x.is; may = may_act setting clock ts are at.process x.tree x.is can at.place x.it_can }

-- the tree that is read there
module _ (setting : Setting) (clock : ℕ) (can : Ability) (ts : List Tree) (at : End) where
  pub there_within : (x : MayActAt setting clock can ts at) → at.process < length ts
  there_within x = slice_get_within ts at.process x.tree x.is

  pub may_read : (d : Tree) (x : MayActAt setting clock can ts at) → MayAct setting.model clock can (get_or ts at.process d) at.place
  may_read d x =
      let same : x.tree ≡ get_or ts at.process d = same_Some x.tree (get_or ts at.process d) (sym x.is ∙ slice_get-get_or ts at.process d (there_within x)) in
      subst (λ (u : Tree). MayAct setting.model clock can u at.place) same x.may

  pub limits_read : (d : Tree) (x : MayActAt setting clock can ts at) → (get_or ts at.process d).limits ≡ setting.limits
  limits_read d x =
      let same : x.tree ≡ get_or ts at.process d = same_Some x.tree (get_or ts at.process d) (sym x.is ∙ slice_get-get_or ts at.process d (there_within x)) in
      subst (λ (u : Tree). u.limits ≡ setting.limits) same x.limits

-- the same where the parcel is not told
module _ (setting : Setting) (clock : ℕ) (can : ParcelView → Ability) (ts : List Tree) (at : End) (may : ∥ ((parcel : ParcelView) × MayActAt setting clock (can parcel) ts at) ∥₁) where
  pub some_within : at.process < length ts
  some_within = ∥∥₁_elim may le_prop (λ x. there_within setting clock (can x.0) ts at x.1)

  pub some_read : (d : Tree) → ∥ ((parcel : ParcelView) × MayAct setting.model clock (can parcel) (get_or ts at.process d) at.place) ∥₁
  some_read d = ∥∥₁_map may (λ x. (x.0, may_read setting clock (can x.0) ts at d x.1))

  pub some_limits : (d : Tree) → (get_or ts at.process d).limits ≡ setting.limits
  some_limits d = ∥∥₁_elim may (Coded-set limits_row.the_row.coded (get_or ts at.process d).limits setting.limits) (λ x. limits_read setting clock (can x.0) ts at d x.1)

  pub some_rounds : (d : Tree) {Z : Type 0} → (setting.limits.edition ≡ Two → Z) → (get_or ts at.process d).limits.edition ≡ Two → Z
  some_rounds d rounds e = rounds (ap (λ (l : Limits). l.edition) (sym (some_limits d)) ∙ e)

  pub read_there : (d : Tree) → slice_get ts at.process ≡ Some (get_or ts at.process d)
  read_there d = slice_get-get_or ts at.process d some_within

  -- what it then says of its part

  pub has_acted : (does : ParcelView → Deed) (d u : Tree) (us : List Tree) → us ≡ set ts at.process u → (r : Result (Result ⊤ Trouble) AllocError) → IfOk r (After setting.model (get_or ts at.process d) u)
      → ((parcel : ParcelView) → MayAct setting.model clock (can parcel) (get_or ts at.process d) at.place
      → IfOk r (λ left. ∥ Leaves (at_in setting.model (get_or ts at.process d)) (does parcel) (term_in (get_or ts at.process d)) at.place (answered left (process_in u)) ∥₁))
      → IfOk r (HasActed setting.model clock can does at ts us)
  has_acted does d u us now (Err e) after leaves = tt
  has_acted does d u us now (Ok left) after leaves = record { old = get_or ts at.process d; is = read_there d; new = u; now = now; after = after; leaves = leaves }

module _ (setting : Setting) (clock : ℕ) (ts : List Tree) (at : End) (may : ∥ ((parcel : ParcelView) × MayActAt setting clock (CanSend parcel) ts at) ∥₁) where
  pub has_tried : (d : Tree) (r : Result (Result ⊤ Trouble) AllocError)
      → ((parcel : ParcelView) → IsFresh setting.model (get_or ts at.process d) → CanDo (CanSend parcel) (at_in setting.model (get_or ts at.process d)) (term_in (get_or ts at.process d)) at.place
      → IfOk r (Answers (at_in setting.model (get_or ts at.process d)) (λ a f. Hands a f parcel) (term_in (get_or ts at.process d)) at.place))
      → IfOk r (HasTried setting.model clock at ts)
  has_tried d (Err e) answers = tt
  has_tried d (Ok left) answers =
      record { tree = get_or ts at.process d; is = read_there setting clock CanSend ts at may d; answers = λ parcel x. answers parcel x.fresh x.it_can }

-- Internal actions

module _ (acts : MembersAct) (leads : ActionLeadsOn) (setting : Setting) (clock : ℕ) (ts us : List Tree) (at : End) where
  abbrev pub Acted : Result ⊤ Trouble → Type 0
  Acted = HasActed setting.model clock (λ parcel. CanAct) (λ parcel. Performs) at ts us

  next_alone : AreTrees setting clock ts → (kind : Kind) (pos : Pos) (left : Result ⊤ Trouble) (x : Acted left) → Leaves (at_in setting.model x.old) Performs (term_in x.old) at.place (answered left (process_in x.new))
      → Next setting (config_of clock (members_of setting.model ts)) (Internal at kind pos) (reached setting.model clock us left)
  next_alone are kind pos (Ok y) x l =
      subst (λ (ms : List Member). Next setting (config_of clock (members_of setting.model ts)) (Internal at kind pos) (Ok (config_of clock ms)))
      (ap (set (members_of setting.model ts) at.process) (sym (becomes setting.model x.old x.new x.after.seen)) ∙ sym (members_replaced setting.model ts at.process x.new) ∙ ap (members_of setting.model) (sym x.now))
      (leads setting clock (members_of setting.model ts) at kind pos (member_of setting.model x.old) (Ok (process_in x.new)) (member_is setting clock ts are at.process x.old x.is)
      (acts_so setting clock ts are at.process x.old x.is acts deeds.alone at.place (Ok (process_in x.new)) l))
  next_alone are kind pos (Err trouble) x l =
      leads setting clock (members_of setting.model ts) at kind pos (member_of setting.model x.old) (Err trouble) (member_is setting clock ts are at.process x.old x.is)
      (acts_so setting clock ts are at.process x.old x.is acts deeds.alone at.place (Err trouble) l)

  -- what it may do, of the tree that acted
  may_old : (left : Result ⊤ Trouble) (x : Acted left) → AreTrees setting clock ts → CanDoAt setting.model CanAct ts at → MayAct setting.model clock CanAct x.old at.place
  may_old left x are y =
      let same : y.tree ≡ x.old = same_Some y.tree x.old (sym y.is ∙ x.is) in
      subst (λ (u : Tree). MayAct setting.model clock CanAct u at.place) same (may_act setting clock ts are at.process y.tree y.is CanAct at.place y.it_can)

  nothing : ParcelView
  nothing = record { values = []; objects = [] }

  module _ (are : ∥ AreTrees setting clock ts ∥₁) (can : ∥ CanDoAt setting.model CanAct ts at ∥₁) where
    pub leads_alone : (kind : Kind) (pos : Pos) (r : Result (Result ⊤ Trouble) AllocError) → IfOk r Acted
        → IfOk r (λ left. ∥ Next setting (config_of clock (members_of setting.model ts)) (Internal at kind pos) (reached setting.model clock us left) ∥₁)
    leads_alone kind pos (Err e) x = tt
    leads_alone kind pos (Ok left) x = ∥∥₁_elim are squash₁ (λ k. ∥∥₁_elim can squash₁ (λ y. ∥∥₁_map (x.leaves nothing (may_old left x k y)) (λ l. next_alone k kind pos left x l)))

    -- afterwards the trees are those of the processes
    module _ (stay : MembersStay) (fits : StaysFit) (lows : LowStays) (sound : IsSound setting.model) where
      after_alone : (y : ⊤) (x : Acted (Ok y)) → IsFresh setting.model x.new → AreTrees setting clock ts → Leaves (at_in setting.model x.old) Performs (term_in x.old) at.place (Ok (process_in x.new)) → AreTrees setting clock us
      after_alone y x fresh are l =
          trees_reached fits lows setting clock ts us (Internal at Skip l.pos) sound are (next_alone are Skip l.pos (Ok y) x l)
          (subst (AreAlike setting clock) (sym x.now)
          (alike_replaced setting clock stay ts at.process x.old x.new (are_alike setting clock ts are) x.is (becomes setting.model x.old x.new x.after.seen) fresh
          (sym (after_clock setting.model clock x.old x.new x.after.seen (sym (all_at (λ (z : Tree). z.clock ≡ clock) ts at.process x.old are.clocks x.is)))) x.after.frames))

      pub trees_alone : (r : Result (Result ⊤ Trouble) AllocError) → IfOk r Acted → IfOk r (λ left. OnOk left (∥ AreTrees setting clock us ∥₁))
      trees_alone (Err e) x = tt
      trees_alone (Ok (Err trouble)) x = tt
      trees_alone (Ok (Ok y)) x =
          ∥∥₁_elim are squash₁ (λ k. ∥∥₁_elim can squash₁ (λ z. ∥∥₁_elim x.after.fresh squash₁ (λ fresh.
          ∥∥₁_map (x.leaves nothing (may_old (Ok y) x k z)) (λ l. after_alone y x fresh k l))))

  pub other_alone : (r : Result (Result ⊤ Trouble) AllocError) → IfOk r Acted → IfOk r (λ left. OnOk left ((tree : Tree) × (us ≡ set ts at.process tree)))
  other_alone (Err e) x = tt
  other_alone (Ok (Err trouble)) x = tt
  other_alone (Ok (Ok y)) x = (x.new, x.now)

-- at a trouble all trees are as they were
pub stays_then : (m : ModelTree) (clock : ℕ) (can : ParcelView → Ability) (does : ParcelView → Deed) (at : End) (ts us : List Tree) (trouble : Trouble) → HasActed m clock can does at ts us (Err trouble) → us ≡ ts
stays_then m clock can does at ts us trouble x = x.now ∙ ap (set ts at.process) x.after ∙ set_back ts at.process x.old x.is

pub stay_alone : (m : ModelTree) (clock : ℕ) (can : ParcelView → Ability) (does : ParcelView → Deed) (at : End) (ts us : List Tree) (r : Result (Result ⊤ Trouble) AllocError) → IfOk r (HasActed m clock can does at ts us)
    → IfOk r (λ left. OnErr left (us ≡ ts))
stay_alone m clock can does at ts us (Err e) x = tt
stay_alone m clock can does at ts us (Ok (Ok y)) x = tt
stay_alone m clock can does at ts us (Ok (Err trouble)) x = stays_then m clock can does at ts us trouble x
