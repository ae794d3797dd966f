use Rattle.std.proofs.Common.{◌≡◌, ◌≤◌, ◌∙◌, ◌+◌, ◌*◌, ℕ, true, List, sym, ap, subst, arith}
use Rattle.pz_rules.specs.pz_classes_rules.Soundness.{IsSound}
use Rattle.pz_sim.specs.Costs.{visited_all, names_at}
use Rattle.pz_sim.specs.devices.Acting.{model_at, setting_at}
use Rattle.pz_sim.specs.devices.Passing.{MayPass, HavePassed, own_total, AreRetold}
use Rattle.pz_sim.specs.devices.Tables.{IsTable}
use Rattle.pz_sim.specs.Members.{members_of}
use Rattle.std.specs.Prelude.{All, length, map}
use Rattle.pz_tree.specs.declared.tree.Tree.{Tree}
use Rattle.pz_sim.proofs.Waited.{short_so, room_so, count_so, silent_first, may_so, totals_so, passes_so, asked_so, kept_so, retold_so, named_so, table_there}
use Rattle.pz_sim.proofs.passing.elapse.Goals as goal

pub silence_all-requires-clause-count : goal.silence_all-requires-clause-count
silence_all-requires-clause-count g c =
    count_so (setting_at c.args.scene) c.args.scene.clock c.args.time c.args.trees.now c.args.totals.now c.args.pairs.now c.requires.kept c.args.scene.net.now c.processes-count.result c.requires.of_model c.processes-count.ensures.counted

pub silence_all-requires-clause-silent : goal.silence_all-requires-clause-silent
silence_all-requires-clause-silent g c = silent_first (setting_at c.args.scene) c.args.scene.clock c.args.time c.args.trees.now c.args.totals.now c.args.pairs.now c.requires.kept

pub pass_all-requires-clause-may : goal.pass_all-requires-clause-may
pass_all-requires-clause-may g c =
    subst (λ (ts : List Tree). ∥ All (MayPass (model_at c.args.scene) (c.args.scene.clock + c.args.time)) ts ∥₁) (sym c.in_ok-named.ensures.trees)
    (may_so (setting_at c.args.scene) c.args.scene.clock c.args.time c.args.trees.now c.args.totals.now c.args.pairs.now c.requires.kept)

pub pass_all-requires-clause-room : goal.pass_all-requires-clause-room
pass_all-requires-clause-room g c = room_so (setting_at c.args.scene) c.args.scene.clock c.args.time c.args.trees.now c.args.totals.now c.args.pairs.now c.requires.kept c.requires.low

pub pass_all-requires-clause-totals : goal.pass_all-requires-clause-totals
pass_all-requires-clause-totals g c =
    totals_so (setting_at c.args.scene) c.args.scene.clock c.args.time c.args.trees.now c.args.totals.now c.args.pairs.now c.requires.kept
    ∙ ap (λ (ts : List Tree). map (own_total (model_at c.args.scene)) ts) (sym c.in_ok-named.ensures.trees)

pub tell_named-requires-clause-asked : goal.tell_named-requires-clause-asked
tell_named-requires-clause-asked g c =
    asked_so (setting_at c.args.scene) c.args.scene.clock c.args.time c.args.trees.now c.args.totals.now c.args.pairs.now c.requires.kept c.pass_all.new.trees
    (subst (λ (ts : List Tree). ∥ HavePassed (model_at c.args.scene) (c.args.scene.clock + c.args.time) (length ts) ts c.pass_all.new.trees ∥₁) c.in_ok-named.ensures.trees c.in_ok-pass_all.ensures.passed)
    c.steps_lead_on.ensures.passing c.steps_lead_on.ensures.pass c.what_fits_goes_on.ensures.stays c.low_terms_stay.ensures.passing c.frames_stand_as_time_passes.ensures.law (subst IsSound c.model-model.ensures.is c.model-model.ensures.sound)

pub tell_named-requires-clause-retold : goal.tell_named-requires-clause-retold
tell_named-requires-clause-retold g c =
    subst (λ (ns : List ℕ). ∥ AreRetold (model_at c.args.scene) c.pass_all.new.trees c.silence_all.new.pairs ns 0 ∥₁) (sym c.as_slice.ensures.value)
    (retold_so (setting_at c.args.scene) c.args.scene.clock c.args.time c.args.trees.now c.args.totals.now c.args.pairs.now c.requires.kept c.pass_all.new.trees
    (subst (λ (ts : List Tree). ∥ HavePassed (model_at c.args.scene) (c.args.scene.clock + c.args.time) (length ts) ts c.pass_all.new.trees ∥₁) c.in_ok-named.ensures.trees c.in_ok-pass_all.ensures.passed)
    c.unclocked_offers_outlast.ensures.sends c.unclocked_offers_outlast.ensures.receives c.unclocked_offers_outlast.ensures.verdicts c.pairs_are_those_of_the_rules.ensures.receivers
    (subst IsSound c.model-model.ensures.is c.model-model.ensures.sound) c.silence_all.new.pairs c.in_ok-named.named.items c.processes-count.result
    (count_so (setting_at c.args.scene) c.args.scene.clock c.args.time c.args.trees.now c.args.totals.now c.args.pairs.now c.requires.kept c.args.scene.net.now c.processes-count.result c.requires.of_model c.processes-count.ensures.counted)
    c.in_ok-named.ensures.silent)

pub decide-requires : goal.decide-requires
decide-requires g c = table_there (model_at c.args.scene) c.pass_all.new.trees c.tell_named.new.pairs c.in_ok-tell_named.ensures.table

pub returns-clause-passes : goal.returns-clause-passes
returns-clause-passes g c =
    passes_so (setting_at c.args.scene) c.args.scene.clock c.args.time c.args.trees.now c.args.totals.now c.args.pairs.now c.requires.kept c.tell_named.new.trees
    (subst (λ (us : List Tree). ∥ HavePassed (model_at c.args.scene) (c.args.scene.clock + c.args.time) (length c.args.trees.now) c.args.trees.now us ∥₁) (sym c.in_ok-tell_named.ensures.trees)
    (subst (λ (ts : List Tree). ∥ HavePassed (model_at c.args.scene) (c.args.scene.clock + c.args.time) (length ts) ts c.pass_all.new.trees ∥₁) c.in_ok-named.ensures.trees c.in_ok-pass_all.ensures.passed))
    c.steps_lead_on.ensures.passing

pub returns-clause-kept : goal.returns-clause-kept
returns-clause-kept g c =
    kept_so (setting_at c.args.scene) c.args.scene.clock c.args.time c.args.trees.now c.args.totals.now c.args.pairs.now c.requires.kept c.tell_named.new.trees
    (subst (λ (us : List Tree). ∥ HavePassed (model_at c.args.scene) (c.args.scene.clock + c.args.time) (length c.args.trees.now) c.args.trees.now us ∥₁) (sym c.in_ok-tell_named.ensures.trees)
    (subst (λ (ts : List Tree). ∥ HavePassed (model_at c.args.scene) (c.args.scene.clock + c.args.time) (length ts) ts c.pass_all.new.trees ∥₁) c.in_ok-named.ensures.trees c.in_ok-pass_all.ensures.passed))
    c.steps_lead_on.ensures.passing c.steps_lead_on.ensures.pass c.what_fits_goes_on.ensures.stays c.low_terms_stay.ensures.passing c.frames_stand_as_time_passes.ensures.law (subst IsSound c.model-model.ensures.is c.model-model.ensures.sound)
    c.pass_all.new.totals c.tell_named.new.pairs c.in_ok-moment.moment
    (c.in_ok-pass_all.ensures.totals ∙ ap (λ (ts : List Tree). map (own_total (model_at c.args.scene)) ts) (sym c.in_ok-tell_named.ensures.trees))
    (subst (λ (ts : List Tree). ∥ IsTable (members_of (model_at c.args.scene) ts) c.tell_named.new.pairs ∥₁) (sym c.in_ok-tell_named.ensures.trees) c.in_ok-tell_named.ensures.table)
    c.in_ok-moment.ensures

pub overflow_add-after : goal.overflow_add-after
overflow_add-after g c =
    let short = short_so (setting_at c.args.scene) c.args.scene.clock c.args.time c.args.trees.now c.args.totals.now c.args.pairs.now c.requires.kept in
    let low = c.requires.low in
    omega (arith, low, short)

pub returns-clause-ticks : goal.returns-clause-ticks
returns-clause-ticks g c =
    let m = model_at c.args.scene in
    let ts = c.args.trees.now in
    let counted = count_so (setting_at c.args.scene) c.args.scene.clock c.args.time ts c.args.totals.now c.args.pairs.now c.requires.kept c.args.scene.net.now c.processes-count.result c.requires.of_model c.processes-count.ensures.counted in
    let all = named_so (setting_at c.args.scene) c.args.scene.clock c.args.time ts c.args.totals.now c.args.pairs.now c.requires.kept c.silence_all.new.pairs c.in_ok-named.named.items c.processes-count.result c.in_ok-named.ensures.silent counted in
    let told = c.in_ok-tell_named.ensures.ticks (names_at m ts) (subst (All (λ i. names_at m ts i ≡ true)) (sym c.as_slice.ensures.value) all) in
    let passed =
    subst (λ (us : List Tree). c.pass_all.new.steps ≤ c.silence_all.new.steps + 64 * visited_all ts us) (sym c.in_ok-tell_named.ensures.trees)
    (subst (λ (vs : List Tree). c.pass_all.new.steps ≤ c.silence_all.new.steps + 64 * visited_all vs c.pass_all.new.trees) c.in_ok-named.ensures.trees c.in_ok-pass_all.ensures.ticks) in
    omega (arith, c.in_ok-named.ensures.ticks, passed, told)
