use Rattle.std.proofs.Common.{◌≡◌, ◌∙◌, refl, IsSome, Vec, ℕ, Global, ◌++◌, ◌∷◌, [], rules}
use Rattle.std.specs.Option.{unwrap_or}
use Rattle.std.proofs.lemmas.Result.{on_ok_weaker}
use Rattle.pz_classes.proofs.Overloads.{at_name, named, named_key, one_more}
use Rattle.pz_classes.proofs.method_index.Methods.put.Goals as goal

pub returns-in-Some-clause-put : goal.returns-in-Some-clause-put
returns-in-Some-clause-put c = on_ok_weaker c.push.result (λ pushed.
    let old = c.args.self.now.by_name in
    let new = c.get_mut.follows.lender c.push.new.self in
    let name = c.args.name.now in
    let present : IsSome (at_name name old) = search rules in
    let grown : c.push.new.self ≡ unwrap_or (at_name name old) [] ++ c.args.overload ∷ [] = pushed ∙ rw (← c.in-Some.ensures.value) refl in
    one_more old new name c.args.overload c.push.new.self grown
    (named old new name c.push.new.self ((c.get_mut.follows.holds c.push.new.self).3 present))) c.push.ensures.ok

pub returns-clause-put : goal.returns-clause-put
returns-clause-put c =
    let old = c.args.self.now.by_name in
    let name = c.args.name.now in
    let key : Vec ℕ Global = c.in_ok-to_vec.field-0 in
    let kept : c.get_mut.follows.lender-at-none ≡ old = c.get_mut.follows.holds-at-none in
    let spelled : key.items ≡ name = search rules in
    let grown : c.push-2.new.self ≡ unwrap_or (at_name name old) [] ++ c.args.overload ∷ [] = c.in_ok-push.ensures.ok ∙ rw (← c.in_default.ensures.value, c.new-overloads.ensures) refl in
    one_more old c.insert.new.self name c.args.overload c.push-2.new.self grown (named_key old c.get_mut.follows.lender-at-none c.insert.new.self key name c.push-2.new.self kept spelled c.in_ok-insert.ensures.updates)
