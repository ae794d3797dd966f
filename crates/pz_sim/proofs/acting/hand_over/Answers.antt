use Rattle.std.proofs.Common.{◌≡◌, ◌∙◌, List, Result, Ok, Err, length, refl, sym, subst, arith}
use Rattle.std.specs.Prelude.{⊤, OnOk, OnErr, slice_set}
use Rattle.std.proofs.Math.Logic.{∥∥₁_map}
use Rattle.pz_rules.specs.pz_offer.declared.trouble.Trouble.{Trouble}
use Rattle.pz_rules.specs.Offers.{IsPair}
use Rattle.pz_tree.specs.declared.tree.Tree.{Tree}
use Rattle.pz_sim.specs.Costs.{ActsSoon, acts_in, with_end_in}
use Rattle.pz_sim.specs.devices.Acting.{model_at, setting_at, config_at, communicated}
use Rattle.pz_sim.specs.devices.Holding.{AreTrees}
use Rattle.pz_sim.proofs.Exchanged.{pair_apart, sender_there, receiver_there}
use Rattle.pz_sim.proofs.Renewed.{next_moved}
use Rattle.pz_sim.proofs.Together.{trees_are, first_silent, receiver_speaks, receiver_within, sender_speaks, sender_within, both_told, first_free, asks_both}
use Rattle.pz_sim.proofs.Counted.{first_of, second_of}
use Rattle.pz_sim.proofs.Soon.{soon_moved}
use Rattle.pz_sim.proofs.acting.hand_over.Goals as goal

pub silence-requires : goal.silence-requires
silence-requires g c = first_silent (setting_at c.args.scene) c.args.scene.clock c.args.trees.now c.args.totals.now c.args.pairs.now c.requires.told c.args.sender.now.end.process c.args.receiver.now.process
    (pair_apart (setting_at c.args.scene) c.args.scene.clock c.args.trees.now c.args.sender.now.wire c.args.sender.now.end c.args.receiver.now c.args.sender.now.message c.args.sender.now.parcel (trees_are c.args.scene c.args.trees.now c.args.totals.now c.args.pairs.now c.requires.told) c.requires.pair)
    (sender_there (setting_at c.args.scene) c.args.scene.clock c.args.trees.now c.args.sender.now.wire c.args.sender.now.end c.args.receiver.now c.args.sender.now.message c.args.sender.now.parcel (trees_are c.args.scene c.args.trees.now c.args.totals.now c.args.pairs.now c.requires.told) c.requires.pair)
    (receiver_there (setting_at c.args.scene) c.args.scene.clock c.args.trees.now c.args.sender.now.wire c.args.sender.now.end c.args.receiver.now c.args.sender.now.message c.args.sender.now.parcel (trees_are c.args.scene c.args.trees.now c.args.totals.now c.args.pairs.now c.requires.told) c.requires.pair)

pub exchange-requires-clause-trees : goal.exchange-requires-clause-trees
exchange-requires-clause-trees g c =
    subst (λ (vs : List Tree). ∥ AreTrees (setting_at c.args.scene) c.args.scene.clock vs ∥₁) (sym c.silence.ensures.trees) (trees_are c.args.scene c.args.trees.now c.args.totals.now c.args.pairs.now c.requires.told)

pub exchange-requires-clause-pair : goal.exchange-requires-clause-pair
exchange-requires-clause-pair g c =
    let s = c.args.sender.now in
    subst (λ (vs : List Tree). ∥ IsPair (setting_at c.args.scene) (config_at c.args.scene vs) s.wire s.end c.args.receiver.now s.message s.parcel ∥₁) (sym c.silence.ensures.trees) c.requires.pair

pub renew-requires-clause-can : goal.renew-requires-clause-can
renew-requires-clause-can g c =
    receiver_speaks (setting_at c.args.scene) c.args.scene.clock c.args.trees.now c.args.totals.now c.args.pairs.now c.requires.told c.args.sender.now.end.process c.args.receiver.now.process
    (pair_apart (setting_at c.args.scene) c.args.scene.clock c.args.trees.now c.args.sender.now.wire c.args.sender.now.end c.args.receiver.now c.args.sender.now.message c.args.sender.now.parcel (trees_are c.args.scene c.args.trees.now c.args.totals.now c.args.pairs.now c.requires.told) c.requires.pair)
    (sender_there (setting_at c.args.scene) c.args.scene.clock c.args.trees.now c.args.sender.now.wire c.args.sender.now.end c.args.receiver.now c.args.sender.now.message c.args.sender.now.parcel (trees_are c.args.scene c.args.trees.now c.args.totals.now c.args.pairs.now c.requires.told) c.requires.pair)
    (receiver_there (setting_at c.args.scene) c.args.scene.clock c.args.trees.now c.args.sender.now.wire c.args.sender.now.end c.args.receiver.now c.args.sender.now.message c.args.sender.now.parcel (trees_are c.args.scene c.args.trees.now c.args.totals.now c.args.pairs.now c.requires.told) c.requires.pair)
    c.silence.new.pairs c.in_ok-silence.ensures.table
    c.silence.new.trees c.exchange.new.trees c.silence.ensures.trees
    (subst (λ (r : Result ⊤ Trouble). OnOk r ((u v : Tree) × (c.exchange.new.trees ≡ slice_set (slice_set c.silence.new.trees c.args.receiver.now.process v) c.args.sender.now.end.process u))) c.in-Ok.is c.in_ok-left.ensures.others)
    (subst (λ (r : Result ⊤ Trouble). OnOk r (∥ AreTrees (setting_at c.args.scene) c.args.scene.clock c.exchange.new.trees ∥₁)) c.in-Ok.is c.in_ok-left.ensures.after)

pub renew-requires-clause-within : goal.renew-requires-clause-within
renew-requires-clause-within g c =
    receiver_within (setting_at c.args.scene) c.args.scene.clock c.args.trees.now c.args.totals.now c.args.pairs.now c.requires.told c.args.sender.now.end.process c.args.receiver.now.process
    (pair_apart (setting_at c.args.scene) c.args.scene.clock c.args.trees.now c.args.sender.now.wire c.args.sender.now.end c.args.receiver.now c.args.sender.now.message c.args.sender.now.parcel (trees_are c.args.scene c.args.trees.now c.args.totals.now c.args.pairs.now c.requires.told) c.requires.pair)
    (sender_there (setting_at c.args.scene) c.args.scene.clock c.args.trees.now c.args.sender.now.wire c.args.sender.now.end c.args.receiver.now c.args.sender.now.message c.args.sender.now.parcel (trees_are c.args.scene c.args.trees.now c.args.totals.now c.args.pairs.now c.requires.told) c.requires.pair)
    (receiver_there (setting_at c.args.scene) c.args.scene.clock c.args.trees.now c.args.sender.now.wire c.args.sender.now.end c.args.receiver.now c.args.sender.now.message c.args.sender.now.parcel (trees_are c.args.scene c.args.trees.now c.args.totals.now c.args.pairs.now c.requires.told) c.requires.pair)
    c.silence.new.pairs c.in_ok-silence.ensures.table
    c.silence.new.trees c.exchange.new.trees c.silence.ensures.trees
    (subst (λ (r : Result ⊤ Trouble). OnOk r ((u v : Tree) × (c.exchange.new.trees ≡ slice_set (slice_set c.silence.new.trees c.args.receiver.now.process v) c.args.sender.now.end.process u))) c.in-Ok.is c.in_ok-left.ensures.others)
    (subst (λ (r : Result ⊤ Trouble). OnOk r (∥ AreTrees (setting_at c.args.scene) c.args.scene.clock c.exchange.new.trees ∥₁)) c.in-Ok.is c.in_ok-left.ensures.after)

pub renew-requires-in-Ok-clause-can : goal.renew-requires-in-Ok-clause-can
renew-requires-in-Ok-clause-can g c =
    sender_speaks (setting_at c.args.scene) c.args.scene.clock c.args.trees.now c.args.totals.now c.args.pairs.now c.requires.told c.args.sender.now.end.process c.args.receiver.now.process
    (pair_apart (setting_at c.args.scene) c.args.scene.clock c.args.trees.now c.args.sender.now.wire c.args.sender.now.end c.args.receiver.now c.args.sender.now.message c.args.sender.now.parcel (trees_are c.args.scene c.args.trees.now c.args.totals.now c.args.pairs.now c.requires.told) c.requires.pair)
    (sender_there (setting_at c.args.scene) c.args.scene.clock c.args.trees.now c.args.sender.now.wire c.args.sender.now.end c.args.receiver.now c.args.sender.now.message c.args.sender.now.parcel (trees_are c.args.scene c.args.trees.now c.args.totals.now c.args.pairs.now c.requires.told) c.requires.pair)
    (receiver_there (setting_at c.args.scene) c.args.scene.clock c.args.trees.now c.args.sender.now.wire c.args.sender.now.end c.args.receiver.now c.args.sender.now.message c.args.sender.now.parcel (trees_are c.args.scene c.args.trees.now c.args.totals.now c.args.pairs.now c.requires.told) c.requires.pair)
    c.silence.new.pairs c.in_ok-silence.ensures.table
    c.silence.new.trees c.exchange.new.trees c.silence.ensures.trees
    (subst (λ (r : Result ⊤ Trouble). OnOk r ((u v : Tree) × (c.exchange.new.trees ≡ slice_set (slice_set c.silence.new.trees c.args.receiver.now.process v) c.args.sender.now.end.process u))) c.in-Ok.is c.in_ok-left.ensures.others)
    (subst (λ (r : Result ⊤ Trouble). OnOk r (∥ AreTrees (setting_at c.args.scene) c.args.scene.clock c.exchange.new.trees ∥₁)) c.in-Ok.is c.in_ok-left.ensures.after)
    c.renew.new.totals c.renew.new.pairs (∥∥₁_map c.requires.of_model (λ net. c.in_ok-renew-in-Ok.ensures.table net)) c.in_ok-renew-in-Ok.ensures.totals
    c.renew.new.trees c.renew.ensures.trees

pub renew-requires-in-Ok-clause-within : goal.renew-requires-in-Ok-clause-within
renew-requires-in-Ok-clause-within g c =
    sender_within (setting_at c.args.scene) c.args.scene.clock c.args.trees.now c.args.totals.now c.args.pairs.now c.requires.told c.args.sender.now.end.process c.args.receiver.now.process
    (pair_apart (setting_at c.args.scene) c.args.scene.clock c.args.trees.now c.args.sender.now.wire c.args.sender.now.end c.args.receiver.now c.args.sender.now.message c.args.sender.now.parcel (trees_are c.args.scene c.args.trees.now c.args.totals.now c.args.pairs.now c.requires.told) c.requires.pair)
    (sender_there (setting_at c.args.scene) c.args.scene.clock c.args.trees.now c.args.sender.now.wire c.args.sender.now.end c.args.receiver.now c.args.sender.now.message c.args.sender.now.parcel (trees_are c.args.scene c.args.trees.now c.args.totals.now c.args.pairs.now c.requires.told) c.requires.pair)
    (receiver_there (setting_at c.args.scene) c.args.scene.clock c.args.trees.now c.args.sender.now.wire c.args.sender.now.end c.args.receiver.now c.args.sender.now.message c.args.sender.now.parcel (trees_are c.args.scene c.args.trees.now c.args.totals.now c.args.pairs.now c.requires.told) c.requires.pair)
    c.silence.new.pairs c.in_ok-silence.ensures.table
    c.silence.new.trees c.exchange.new.trees c.silence.ensures.trees
    (subst (λ (r : Result ⊤ Trouble). OnOk r ((u v : Tree) × (c.exchange.new.trees ≡ slice_set (slice_set c.silence.new.trees c.args.receiver.now.process v) c.args.sender.now.end.process u))) c.in-Ok.is c.in_ok-left.ensures.others)
    (subst (λ (r : Result ⊤ Trouble). OnOk r (∥ AreTrees (setting_at c.args.scene) c.args.scene.clock c.exchange.new.trees ∥₁)) c.in-Ok.is c.in_ok-left.ensures.after)
    c.renew.new.totals c.renew.new.pairs (∥∥₁_map c.requires.of_model (λ net. c.in_ok-renew-in-Ok.ensures.table net)) c.in_ok-renew-in-Ok.ensures.totals
    c.renew.new.trees c.renew.ensures.trees

pub returns-in_ok-renew-in-Ok-2-clause-told : goal.returns-in_ok-renew-in-Ok-2-clause-told
returns-in_ok-renew-in-Ok-2-clause-told g c =
    both_told (setting_at c.args.scene) c.args.scene.clock c.args.trees.now c.args.totals.now c.args.pairs.now c.requires.told c.args.sender.now.end.process c.args.receiver.now.process
    (pair_apart (setting_at c.args.scene) c.args.scene.clock c.args.trees.now c.args.sender.now.wire c.args.sender.now.end c.args.receiver.now c.args.sender.now.message c.args.sender.now.parcel (trees_are c.args.scene c.args.trees.now c.args.totals.now c.args.pairs.now c.requires.told) c.requires.pair)
    (sender_there (setting_at c.args.scene) c.args.scene.clock c.args.trees.now c.args.sender.now.wire c.args.sender.now.end c.args.receiver.now c.args.sender.now.message c.args.sender.now.parcel (trees_are c.args.scene c.args.trees.now c.args.totals.now c.args.pairs.now c.requires.told) c.requires.pair)
    (receiver_there (setting_at c.args.scene) c.args.scene.clock c.args.trees.now c.args.sender.now.wire c.args.sender.now.end c.args.receiver.now c.args.sender.now.message c.args.sender.now.parcel (trees_are c.args.scene c.args.trees.now c.args.totals.now c.args.pairs.now c.requires.told) c.requires.pair)
    c.silence.new.pairs c.in_ok-silence.ensures.table
    c.silence.new.trees c.exchange.new.trees c.silence.ensures.trees
    (subst (λ (r : Result ⊤ Trouble). OnOk r ((u v : Tree) × (c.exchange.new.trees ≡ slice_set (slice_set c.silence.new.trees c.args.receiver.now.process v) c.args.sender.now.end.process u))) c.in-Ok.is c.in_ok-left.ensures.others)
    (subst (λ (r : Result ⊤ Trouble). OnOk r (∥ AreTrees (setting_at c.args.scene) c.args.scene.clock c.exchange.new.trees ∥₁)) c.in-Ok.is c.in_ok-left.ensures.after)
    c.renew.new.totals c.renew.new.pairs (∥∥₁_map c.requires.of_model (λ net. c.in_ok-renew-in-Ok.ensures.table net)) c.in_ok-renew-in-Ok.ensures.totals
    c.renew.new.trees c.renew.ensures.trees
    c.renew-in-Ok.new.trees c.renew-in-Ok.new.totals c.renew-in-Ok.new.pairs c.renew-in-Ok.ensures.trees (∥∥₁_map c.requires.of_model (λ net. c.in_ok-renew-in-Ok-2.ensures.table net)) c.in_ok-renew-in-Ok-2.ensures.totals

pub returns-in_ok-renew-in-Ok-2-clause-leads : goal.returns-in_ok-renew-in-Ok-2-clause-leads
returns-in_ok-renew-in-Ok-2-clause-leads g c =
    next_moved (setting_at c.args.scene) c.args.scene.clock c.args.trees.now c.silence.new.trees c.exchange.new.trees c.renew-in-Ok.new.trees (communicated c.args.sender.now c.args.receiver.now) c.in_ok-left.left (Ok c.in-Ok.field-0)
    c.silence.ensures.trees (c.renew-in-Ok.ensures.trees ∙ c.renew.ensures.trees) c.in-Ok.is c.in_ok-left.ensures.leads

pub returns-in-Err-clause-leads : goal.returns-in-Err-clause-leads
returns-in-Err-clause-leads g c =
    next_moved (setting_at c.args.scene) c.args.scene.clock c.args.trees.now c.silence.new.trees c.exchange.new.trees c.exchange.new.trees (communicated c.args.sender.now c.args.receiver.now) c.in_ok-left.left (Err c.in-Err.trouble)
    c.silence.ensures.trees refl c.in-Err.is c.in_ok-left.ensures.leads

pub returns-in-Err-clause-unchanged : goal.returns-in-Err-clause-unchanged
returns-in-Err-clause-unchanged g c =
    subst (λ (r : Result ⊤ Trouble). OnErr r (c.exchange.new.trees ≡ c.silence.new.trees)) c.in-Err.is c.in_ok-left.ensures.unchanged ∙ c.silence.ensures.trees

pub returns-in_ok-renew-in-Ok-2-clause-ticks : goal.returns-in_ok-renew-in-Ok-2-clause-ticks
returns-in_ok-renew-in-Ok-2-clause-ticks g c =
    let x = c.args.scene in
    let s = c.args.sender.now in
    let i = s.end.process in
    let j = c.args.receiver.now.process in
    let a = communicated s c.args.receiver.now in
    let m = model_at x in
    let are = trees_are x c.args.trees.now c.args.totals.now c.args.pairs.now c.requires.told in
    let apart = pair_apart (setting_at x) x.clock c.args.trees.now s.wire s.end c.args.receiver.now s.message s.parcel are c.requires.pair in
    let i_there = sender_there (setting_at x) x.clock c.args.trees.now s.wire s.end c.args.receiver.now s.message s.parcel are c.requires.pair in
    let j_there = receiver_there (setting_at x) x.clock c.args.trees.now s.wire s.end c.args.receiver.now s.message s.parcel are c.requires.pair in
    let first = first_free (setting_at x) x.clock c.args.trees.now c.args.totals.now c.args.pairs.now c.requires.told i j apart i_there j_there c.silence.new.pairs c.in_ok-silence.ensures.table in
    let asked =
    asks_both (setting_at x) x.clock c.args.trees.now c.args.totals.now c.args.pairs.now c.requires.told i j apart i_there j_there c.silence.new.pairs c.in_ok-silence.ensures.table
    c.silence.new.trees c.exchange.new.trees c.silence.ensures.trees
    (subst (λ (r : Result ⊤ Trouble). OnOk r ((u v : Tree) × (c.exchange.new.trees ≡ slice_set (slice_set c.silence.new.trees j v) i u))) c.in-Ok.is c.in_ok-left.ensures.others)
    (subst (λ (r : Result ⊤ Trouble). OnOk r (∥ AreTrees (setting_at x) x.clock c.exchange.new.trees ∥₁)) c.in-Ok.is c.in_ok-left.ensures.after)
    c.renew.new.totals c.renew.new.pairs (∥∥₁_map c.requires.of_model (λ net. c.in_ok-renew-in-Ok.ensures.table net)) c.in_ok-renew-in-Ok.ensures.totals
    (acts_in a) (first_of i j) (second_of i j) c.renew-in-Ok.new.pairs c.in_ok-renew-in-Ok-2.ensures.others in
    soon_moved m c.args.trees.now c.silence.new.trees c.exchange.new.trees c.renew-in-Ok.new.trees a (length (with_end_in (acts_in a) c.renew-in-Ok.new.pairs.pairs)) c.args.steps.now c.silence.new.steps c.exchange.new.steps c.renew-in-Ok.new.steps
    c.silence.ensures.trees (c.renew-in-Ok.ensures.trees ∙ c.renew.ensures.trees)
    (omega (arith, c.in_ok-silence.ensures.ticks, first)) (omega (arith, c.in_ok-renew-in-Ok.ensures.ticks, c.in_ok-renew-in-Ok-2.ensures.ticks, asked))
    (subst (λ (r : Result ⊤ Trouble). OnOk r (∥ ActsSoon m c.silence.new.trees c.exchange.new.trees a 0 c.silence.new.steps c.exchange.new.steps ∥₁)) c.in-Ok.is c.in_ok-left.ensures.ticks)
