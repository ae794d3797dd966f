-- Time passes over one tree after another, and then it has passed over all.
use Rattle.std.proofs.Common.{◌≡◌, ◌≢◌, ◌≤◌, ◌<◌, ◌+◌, ◌-◌, ◌⊎◌, inl, inr, ℕ, zero, suc, List, [], ◌∷◌, map, set, get_or, length, Some, refl, sym, subst, ap, ◌∙◌, arith}
use Rattle.std.specs.Prelude.{slice_get, All}
use Rattle.std.proofs.lemmas.Bool.{cases_lt}
use Rattle.std.proofs.lemmas.Option.{same_Some, slice_get_within, slice_get-get_or}
use Rattle.std.proofs.lemmas.List.{length-map, length-set}
use Rattle.pz_rules.specs.pz_syntax.Classes.{ModelTree}
use Rattle.pz_rules.specs.pz_classes_rules.Soundness.{IsSound}
use Rattle.pz_rules.specs.declared.action.Action.{Action}
use Rattle.pz_rules.specs.declared.action.Action.TheVariants.{Internal}
use Rattle.pz_rules.specs.declared.action.Kind.TheVariants.{Skip}
use Rattle.pz_rules.specs.Settings.{Setting, Context}
use Rattle.pz_rules.specs.Configurations.{IsWhole}
use Rattle.pz_rules.specs.Delays.{Passes}
use Rattle.pz_rules.specs.Steps.{PassesTo}
use Rattle.pz_rules.specs.Laws.{StaysFit, LowPasses}
use Rattle.pz_sim_totals.specs.declared.total.Total.{Total}
use Rattle.pz_sim_laws.specs.Members.{Member, config_of, process_of}
use Rattle.pz_sim_laws.specs.Deciding.{total_of}
use Rattle.pz_sim_laws.specs.Elapsing.{Elapsed}
use Rattle.pz_sim_laws.specs.Laws.{PassingLeadsOn, MembersPass}
use Rattle.pz_tree.specs.pz_tree_standing.Frames.{FramesStand, FramesStandAsTimePasses}
use Rattle.pz_tree.specs.pz_tree_standing.Steady.{later}
use Rattle.pz_tree.specs.declared.tree.Tree.{Tree}
use Rattle.pz_tree.specs.Trees.{at_in, term_in, process_in, IsFresh}
use Rattle.pz_sim.specs.Members.{member_of, members_of}
use Rattle.pz_sim.specs.devices.Holding.{AreTrees}
use Rattle.pz_sim.specs.devices.Passing.{HasPassed, HavePassed, own_total}
use Rattle.pz_sim.proofs.Heard.{set_same, set_other}
use Rattle.pz_sim.proofs.Replaced.{from_mapped, all_at}

-- what is so at each place is so of all
pub all_from : {X : Type 0} (P : X → Type 0) (xs : List X) → ((i : ℕ) (x : X) → slice_get xs i ≡ Some x → P x) → All P xs
all_from P xs each k d within = each k (get_or xs k d) (slice_get-get_or xs k d within)

-- in a list of as many there is one too
pub some_at : {X Y : Type 0} (xs : List X) (ys : List Y) (i : ℕ) (y : Y) → length xs ≡ length ys → slice_get ys i ≡ Some y → (x : X) × (slice_get xs i ≡ Some x)
some_at [] ys i y same is = absurd (let within = slice_get_within ys i y is in omega (arith, within, same))
some_at (x ∷ xs) [] i y same is = cc
some_at (x ∷ xs) (z ∷ ys) zero y same is = (x, refl)
some_at (x ∷ xs) (z ∷ ys) (suc i) y same is = some_at xs ys i y (omega (arith, same)) is

module _ (m : ModelTree) (clock : ℕ) (ts : List Tree) where
  pub none_passed : HavePassed m clock 0 ts ts
  none_passed = record { all = refl; passed = λ i t u below there here. absurd (omega (arith, below)); left = λ i behind. refl }

  -- one more
  pub passed_more : (us : List Tree) (n : ℕ) (old new : Tree) → slice_get us n ≡ Some old → HavePassed m clock n ts us → HasPassed m clock old new → HavePassed m clock (n + 1) ts (set us n new)
  passed_more us n old new is have has = record {
    all = length-set us n new ∙ have.all;
    passed = passed;
    left = λ i behind. let apart : n ≢ i = omega arith in set_other us n i new apart ∙ have.left i (omega (arith, behind));
  }
    where
      passed : (i : ℕ) (t u : Tree) → i < n + 1 → slice_get ts i ≡ Some t → slice_get (set us n new) i ≡ Some u → HasPassed m clock t u
      passed i t u below there here = by (cases_lt i n)
        where
          by : (i < n) ⊎ (n ≤ i) → HasPassed m clock t u
          by (inl earlier) = let apart : n ≢ i = omega arith in have.passed i t u earlier there (sym (set_other us n i new apart) ∙ here)
          by (inr behind) =
              let same : n ≡ i = omega (arith, below, behind) in
              let is_new : u ≡ new = set_same us n new u (ap (slice_get (set us n new)) same ∙ here) in
              let is_old : old ≡ t = same_Some old t (sym is ∙ have.left n (let it : n ≤ n = omega arith in it) ∙ ap (slice_get ts) same ∙ there) in
              subst (λ (x : Tree). HasPassed m clock t x) (sym is_new) (subst (λ (x : Tree). HasPassed m clock x new) is_old has)

  -- the next one is as it was
  pub next_is : (us : List Tree) (n : ℕ) (t : Tree) → HavePassed m clock n ts us → slice_get us n ≡ Some t → slice_get ts n ≡ Some t
  next_is us n t have is = sym (have.left n (let it : n ≤ n = omega arith in it)) ∙ is

-- any action: what is said of a passing does not depend on it
some_action : Action
some_action = Internal (record { process = 0; place = [] }) Skip (record { line = 0; column = 0 })

-- Once it has passed over all

module _ (setting : Setting) (clock d : ℕ) (ts us : List Tree) (are : AreTrees setting clock ts) (have : HavePassed setting.model (clock + d) (length ts) ts us) where
  abbrev m : ModelTree
  m = setting.model

  passed_at : (i : ℕ) (t u : Tree) → slice_get ts i ≡ Some t → slice_get us i ≡ Some u → HasPassed m (clock + d) t u
  passed_at i t u there here = have.passed i t u (slice_get_within ts i t there) there here

  -- by so much
  so_much : (i : ℕ) (t : Tree) → slice_get ts i ≡ Some t → (clock + d) - t.clock ≡ d
  so_much i t is = let same : t.clock ≡ clock = all_at (λ (x : Tree). x.clock ≡ clock) ts i t are.clocks is in omega (arith, same)

  pub elapsed_at : (i : ℕ) (t u : Tree) → slice_get ts i ≡ Some t → slice_get us i ≡ Some u → Elapsed d (member_of m t) (member_of m u)
  elapsed_at i t u there here =
      let x = passed_at i t u there here in
      record {
        passes = subst (λ (e : ℕ). Passes (at_in m t) e 0 (term_in t) (term_in u)) (so_much i t there) x.passes;
        seen = subst (λ (e : ℕ). at_in m u ≡ later (at_in m t) e) (so_much i t there) x.seen;
      }

  members_elapse : (i : ℕ) (h k : Member) → slice_get (members_of m ts) i ≡ Some h → slice_get (members_of m us) i ≡ Some k → Elapsed d h k
  members_elapse i h k there here =
      let x = from_mapped (member_of m) ts i h there in
      let y = from_mapped (member_of m) us i k here in
      subst (λ (z : Member). Elapsed d z k) x.2 (subst (λ (z : Member). Elapsed d (member_of m x.0) z) y.2 (elapsed_at i x.0 y.0 x.1 y.1))

  as_many : length (members_of m us) ≡ length (members_of m ts)
  as_many = length-map us (member_of m) ∙ have.all ∙ sym (length-map ts (member_of m))

  pub passes_on : PassingLeadsOn → PassesTo setting (config_of clock (members_of m ts)) d (config_of (clock + d) (members_of m us))
  passes_on law = law setting clock d (members_of m ts) (members_of m us) are.members as_many members_elapse

  pub before_it : (i : ℕ) (u : Tree) → slice_get us i ≡ Some u → (t : Tree) × (slice_get ts i ≡ Some t)
  before_it i u is = some_at ts us i u (sym have.all) is

  is_whole : IsWhole setting (config_of clock (members_of m ts))
  is_whole = length-map (members_of m ts) process_of ∙ are.members.whole

  pub clock_at : (i : ℕ) (u : Tree) → slice_get us i ≡ Some u → u.clock ≡ clock + d
  clock_at i u is =
      let t = before_it i u is in
      let seen : u.clock ≡ t.0.clock + d = ap (λ (a : Context). a.clock) (elapsed_at i t.0 u t.1 is).seen in
      seen ∙ ap (λ (c : ℕ). c + d) (all_at (λ (x : Tree). x.clock ≡ clock) ts i t.0 are.clocks t.1)

  pub fresh_at : (i : ℕ) (u : Tree) → slice_get us i ≡ Some u → IsFresh m u
  fresh_at i u is = let t = before_it i u is in (passed_at i t.0 u t.1 is).fresh

  frames_at : FramesStandAsTimePasses → (i : ℕ) (u : Tree) → slice_get us i ≡ Some u → FramesStand (term_in u) (process_in u).state
  frames_at law i u is =
      let t = before_it i u is in
      let x = elapsed_at i t.0 u t.1 is in
      let state : u.state.held ≡ t.0.state.held = ap (λ (a : Context). a.state) x.seen in
      subst (FramesStand (term_in u)) (sym state)
      (law (at_in m t.0) d 0 (term_in t.0) (term_in u) t.0.state.held x.passes (all_at (λ (y : Tree). FramesStand (term_in y) (process_in y).state) ts i t.0 are.frames t.1))

  -- they are trees of the processes of the model
  pub trees_after : PassingLeadsOn → MembersPass → StaysFit → LowPasses → FramesStandAsTimePasses → IsSound m → AreTrees setting (clock + d) us
  trees_after leads pass fit low frames sound =
      let c = config_of clock (members_of m ts) in
      let next = config_of (clock + d) (members_of m us) in
      record {
        members = pass setting clock d (members_of m ts) (members_of m us) are.members as_many members_elapse;
        fresh = all_from (IsFresh m) us fresh_at;
        clocks = all_from (λ (u : Tree). u.clock ≡ clock + d) us clock_at;
        fit = (fit setting c next some_action d sound is_whole are.fit).1 (passes_on leads);
        low = low setting c next d is_whole are.low (passes_on leads);
        frames = all_from (λ (u : Tree). FramesStand (term_in u) (process_in u).state) us (frames_at frames);
      }

-- the totals of trees at one clock
pub totals_at : (m : ModelTree) (clock : ℕ) (us : List Tree) → ((i : ℕ) (u : Tree) → slice_get us i ≡ Some u → u.clock ≡ clock) → map (own_total m) us ≡ map (total_of clock) (members_of m us)
totals_at m clock [] clocks = refl
totals_at m clock (u ∷ us) clocks =
    ap (λ (c : ℕ). total_of c (member_of m u) ∷ map (own_total m) us) (clocks 0 u refl)
    ∙ ap (λ (xs : List Total). total_of clock (member_of m u) ∷ xs) (totals_at m clock us (λ i x is. clocks (suc i) x is))
