use Rattle.std.proofs.Common.{◌≡◌, ◌∙◌, ap, subst, false, IsTrue, List, get_or}
use Rattle.std.specs.Option.{option_map_or}
use Rattle.pz_bind_rules.specs.pz_classes_rules.Kinds.{is_process}
use Rattle.pz_bind_rules.specs.pz_classes_rules.Numbers.{declaration}
use Rattle.pz_bind.specs.declared.net.Node.{Node}
use Rattle.pz_bind.proofs.NetFits.{process_class, declared_in}
use Rattle.pz_bind.proofs.net.Net.class.Goals as goal

pub returns-clause-process : goal.returns-clause-process
returns-clause-process c = λ m is.
    let node = c.index-as_slice-process.result in
    let here : node ≡ get_or c.args.self.now.nodes c.args.process node = c.index-as_slice-process.is ∙ ap (λ (ns : List Node). get_or ns c.args.process node) c.as_slice.ensures in
    subst (λ (x : Node). IsTrue (option_map_or is_process (declaration m x.class.0) false)) c.index-as_slice-process.is (process_class m c.args.self.now is c.args.process node c.requires here)

pub returns-clause-belongs : goal.returns-clause-belongs
returns-clause-belongs c = λ m classes is are. declared_in m classes _ are (returns-clause-process c m is)
