use Rattle.std.proofs.Common.{◌≡◌, ◌++◌, ◌∙◌, sym, ap, subst, List, [], drop}
use Rattle.std.specs.List.Sorted.{IsPermutation}
use Rattle.std.proofs.lemmas.List.{append-nil, drop_all}
use Rattle.pz_term_matching.specs.declared.ends.Sender.{Sender}
use Rattle.pz_term_matching.specs.declared.turns.Turn.{Turn}
use Rattle.pz_term_matching.proofs.Turning.{turns_from, are_turns}
use Rattle.pz_term_matching.proofs.turns.turns_of.Goals as goal

pub returns : goal.returns
returns c =
    let all = c.args.senders.now in
    let place = c.loop-place.place in
    let turns = c.loop-place.turns.items in
    let none : drop place all ≡ [] = drop_all place all c.loop-place-test.false in
    let listed : turns ≡ turns_from 0 all = sym (append-nil turns) ∙ (sym (ap (λ (l : List Sender). turns ++ turns_from place l) none) ∙ c.loop-place.invariant) in
    are_turns all c.sort.new.self.items (subst (λ (l : List Turn). IsPermutation l c.sort.new.self.items) listed c.sort.ensures.permutation) c.in_ok-sort.ensures.sorted
