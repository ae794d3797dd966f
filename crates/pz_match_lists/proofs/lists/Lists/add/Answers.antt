-- The number is in its list, and the other lists stay.
use Rattle.std.proofs.Common.{◌<◌, ◌∙◌, sym, subst, ℕ, [], List, length}
use Rattle.std.specs.Prelude.{Contains}
use Rattle.std.proofs.lemmas.List.{get_or_default}
use Rattle.pz_match_lists.specs.Increasing.{list_at}
use Rattle.pz_match_lists.proofs.Inserting.{kept_in}
use Rattle.pz_match_lists.proofs.lists.Lists.add.Goals as goal

pub returns-clause-keeps : goal.returns-clause-keeps
returns-clause-keeps c k n has =
    let items = c.self.inside.lists.items in
    let reached : Contains (list_at c.reach.new.self k) n = subst (λ (ms : List ℕ). Contains ms n) (sym (c.reach.ensures.same k)) has in
    let lt : c.args.list < length items = subst (λ (ls : List (List ℕ)). c.args.list < length ls) (sym c.self.view_is) c.in_ok-reach.ensures.there in
    kept_in items c.args.list c.index_mut.result.now c.add.new.self lt (c.index_mut.ensures.value ∙ get_or_default items c.args.list c.index_mut.result.now [] lt) c.add.ensures.keeps k n
    (subst (λ (ls : List (List ℕ)). Contains (list_at ls k) n) (sym c.self.view_is) reached)
