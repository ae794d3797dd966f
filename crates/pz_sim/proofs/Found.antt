-- The offer of a number is an internal action of a process that was found, or a communication of a pair.
use Rattle.std.proofs.Common.{◌≡◌, ◌<◌, ◌≤◌, ℕ, List, get_or, length, Option, Some, Result, Ok, Err, sym, ap, ◌∙◌, arith}
use Rattle.std.specs.Prelude.{slice_get, option_map, IfOk, OnOk, ⊤}
use Rattle.std.proofs.Math.Logic.{∥∥₁_elim, ∥∥₁_map, ∥∥₁_map₂}
use Rattle.std.specs.Coded.{le_prop}
use Rattle.std.specs.declared.alloc.AllocError.{AllocError}
use Rattle.std.proofs.lemmas.Option.{slice_get-get_or}
use Rattle.std.proofs.lemmas.List.{length-map}
use Rattle.pz_rules.specs.pz_syntax.Classes.{ModelTree}
use Rattle.pz_rules.specs.pz_bind_rules.Nest.{processes}
use Rattle.pz_rules.specs.pz_classes_rules.Soundness.{IsSound}
use Rattle.pz_rules.specs.pz_offer.declared.end.End.{End}
use Rattle.pz_rules.specs.pz_offer.declared.trouble.Trouble.{Trouble}
use Rattle.pz_match.specs.Pairs.{Judged}
use Rattle.pz_match.specs.Table.{Table}
use Rattle.pz_rules.specs.declared.action.Action.{Action}
use Rattle.pz_rules.specs.declared.action.Action.TheVariants.{Internal}
use Rattle.pz_rules.specs.Settings.{Setting}
use Rattle.pz_rules.specs.Configurations.{Config}
use Rattle.pz_rules.specs.Laws.{WiresAreKnown}
use Rattle.pz_rules.specs.Runs.{IsChoice}
use Rattle.pz_rules.specs.Steps.{Next}
use Rattle.pz_rules.specs.devices.Walk.{internal_actions}
use Rattle.pz_rules.specs.devices.Walks.{InternalActionsAreListed}
use Rattle.pz_sim_totals.specs.declared.total.Total.{Total}
use Rattle.pz_sim_totals.specs.declared.totals.Found.{Found}
use Rattle.pz_sim_totals.specs.Sums as sums
use Rattle.pz_sim_totals.specs.Sums.{IsAction}
use Rattle.pz_sim_laws.specs.Members.{config_of}
use Rattle.pz_sim_laws.specs.Deciding.{total_of, offers_in}
use Rattle.pz_sim_laws.specs.Laws.{InternalsComeFirst, PairsAreCouples}
use Rattle.pz_sim_laws.specs.Leading.{LeadsTo}
use Rattle.pz_tree.specs.Deeds.{CanAct}
use Rattle.pz_tree.specs.declared.found.InternalAction.{InternalAction}
use Rattle.pz_tree.specs.declared.tree.Tree.{Tree}
use Rattle.pz_tree.specs.Asking.{noted_view}
use Rattle.pz_tree.specs.Trees.{IsFresh, at_in, term_in}
use Rattle.pz_sim.specs.Costs.{ActsSoon, TakesSoon, acts_in, with_end_in}
use Rattle.pz_sim.specs.Members.{member_of, members_of}
use Rattle.pz_sim.specs.devices.Acting.{AreTold, CanDoAt}
use Rattle.pz_sim.proofs.Chosen.{never_none, acts_there, chosen_internal, couples_there}
use Rattle.pz_sim.proofs.Replaced.{all_at}

-- what is chosen leads where the action leads
pub chosen_leads : (setting : Setting) (c : Config) (n k : ℕ) (a : Action) (f : Result ⊤ Trouble → Result Config Trouble) (r : Result (Result ⊤ Trouble) AllocError) → ∥ IsChoice setting c n k a ∥₁
    → IfOk r (λ left. ∥ Next setting c a (f left) ∥₁) → IfOk r (λ left. ∥ LeadsTo setting c n k (f left) ∥₁)
chosen_leads setting c n k a f (Err e) chosen next = tt
chosen_leads setting c n k a f (Ok left) chosen next = ∥∥₁_elim chosen squash₁ (λ x. ∥∥₁_map next (λ y. record { action = a; chosen = x; next = y }))

-- and in few steps, if the action is done so
pub chosen_soon : (setting : Setting) (clock n k : ℕ) (ts us : List Tree) (a : Action) (pairs : List Judged) (begun ended : ℕ) (r : Result (Result ⊤ Trouble) AllocError) → ∥ IsChoice setting (config_of clock (members_of setting.model ts)) n k a ∥₁
    → IfOk r (λ left. OnOk left (∥ ActsSoon setting.model ts us a (length (with_end_in (acts_in a) pairs)) begun ended ∥₁)) → IfOk r (λ left. OnOk left (∥ TakesSoon setting clock k ts us pairs begun ended ∥₁))
chosen_soon setting clock n k ts us a pairs begun ended (Err e) chosen soon = tt
chosen_soon setting clock n k ts us a pairs begun ended (Ok (Err trouble)) chosen soon = tt
chosen_soon setting clock n k ts us a pairs begun ended (Ok (Ok x)) chosen soon = ∥∥₁_map₂ chosen soon (λ y z. record { count = n; action = a; chosen = y; soon = z })

module _ (setting : Setting) (clock : ℕ) (ts : List Tree) (totals : List Total) (table : Table) (told : ∥ AreTold setting clock ts totals table ∥₁) (found : Found) (k : ℕ) (is : IsAction totals k found) where
  as_many : AreTold setting clock ts totals table → length totals ≡ length ts
  as_many x = ap (λ (xs : List Total). length xs) x.are_totals ∙ length-map (members_of setting.model ts) (total_of clock) ∙ length-map ts (member_of setting.model)

  pub found_within : found.process < length ts
  found_within = ∥∥₁_elim told le_prop (λ x. let same = as_many x in let within = is.process in omega (arith, same, within))

  -- there are no more processes than a model has
  pub found_below : (count limit : ℕ) → count ≡ length (processes setting.model) → count < limit → found.process < limit
  found_below count limit counted few = ∥∥₁_elim told le_prop (λ x.
      let within = found_within in
      let many = length-map ts (member_of setting.model) in
      let all = x.are_trees.members.whole in
      omega (arith, within, many, all, counted, few))

  pub found_few : {N : Type 0} (count : ℕ) → ∥ N ∥₁ → (N → count ≡ length (processes setting.model)) → count ≤ 10000 → found.process < 10001
  found_few count net counted few = ∥∥₁_elim net le_prop (λ n. found_below count 10001 (counted n) (omega (arith, few)))

  module _ (d : Tree) where
    abbrev t : Tree
    t = get_or ts found.process d

    is_there : slice_get ts found.process ≡ Some t
    is_there = slice_get-get_or ts found.process d found_within

    fresh : AreTold setting clock ts totals table → IsFresh setting.model t
    fresh x = all_at (IsFresh setting.model) ts found.process t x.are_trees.fresh is_there

    pub found_fresh : ∥ ((m : ModelTree) × IsFresh m t) ∥₁
    found_fresh = ∥∥₁_map told (λ x. (setting.model, fresh x))

    -- what its tree says of the number
    abbrev pub Says : Option InternalAction → Type 0
    Says action = (m : ModelTree) → IsFresh m t → option_map noted_view action ≡ slice_get (internal_actions (at_in m t) (term_in t)) found.number

    pub found_never : (action : Option InternalAction) → Says action → ((x : InternalAction) → action ≡ Some x → ⊥) → ⊥
    found_never action says absent = ∥∥₁_elim told (λ x y. absurd x) (λ x. never_none setting clock ts totals table x k found is t is_there action (says setting.model (fresh x)) absent)

    module _ (action : Option InternalAction) (says : Says action) (x : InternalAction) (x_is : action ≡ Some x) where
      abbrev pub at : End
      at = record { process = found.process; place = x.place }

      noted : AreTold setting clock ts totals table → slice_get (internal_actions (at_in setting.model t) (term_in t)) found.number ≡ Some (noted_view x)
      noted y = sym (says setting.model (fresh y)) ∙ ap (option_map noted_view) x_is

      pub found_acts : InternalActionsAreListed → ∥ CanDoAt setting.model CanAct ts at ∥₁
      found_acts law = ∥∥₁_map told (λ y. acts_there setting clock ts totals table y k found is t is_there x (noted y) law)

      pub found_chosen : InternalsComeFirst → PairsAreCouples → WiresAreKnown → IsSound setting.model
          → ∥ IsChoice setting (config_of clock (members_of setting.model ts)) (offers_in (sums.all totals) table.pairs) k (Internal at x.kind x.pos) ∥₁
      found_chosen first couples wires sound = ∥∥₁_map told (λ y. chosen_internal setting clock ts totals table y k found is t is_there x (noted y) first (couples_there setting clock ts totals table y couples wires sound))
