use Rattle.std.proofs.Common.{◌∙◌, subst, IsSome, List, ℕ, rules}
use Rattle.std.proofs.lemmas.Result.{on_ok_weaker}
use Rattle.pz_classes_rules.specs.Methods.{Signature, method_id}
use Rattle.pz_classes.specs.devices.MethodIn.{method_in}
use Rattle.pz_classes.proofs.Overloads.{Put, put_is_found, first_is_found}
use Rattle.pz_classes.proofs.method_index.Methods.add.Goals as goal

pub returns-then-is_some-clause-added : goal.returns-then-is_some-clause-added
returns-then-is_some-clause-added c =
    let t : Signature = record { name = c.args.name.now; counts = c.args.counts } in
    let has : IsSome (method_in c.args.self.now t) = search rules in
    first_is_found c.args.self.now t (method_id c.args.self.now.next) has

pub returns-clause-added : goal.returns-clause-added
returns-clause-added c = on_ok_weaker c.put.result (λ put.
    put_is_found c.args.self.now c.put.new.self c.args.name.now (record { counts = c.args.counts; id = method_id c.args.self.now.next })
    (subst (λ (name : List ℕ). Put c.args.self.now c.put.new.self name (record { counts = c.args.counts; id = method_id c.args.self.now.next })) (c.as_bytes-bytes.ensures.value ∙ c.as_str.ensures) put)) c.put.ensures.put
