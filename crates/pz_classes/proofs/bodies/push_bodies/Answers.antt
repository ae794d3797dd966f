use Rattle.pz_classes_rules.proofs.FewMarks.{data_methods_fit, process_methods_fit}
use Rattle.pz_classes.proofs.bodies.push_bodies.Goals as goal

pub push_data_bodies-requires : goal.push_data_bodies-requires
push_data_bodies-requires c = rw c.as_slice.ensures (data_methods_fit c.args.decl.now c.in-Data.class c.in-Some.methods c.in-Data.is c.in-Some.is c.requires)

pub push_process_bodies-requires : goal.push_process_bodies-requires
push_process_bodies-requires c = rw c.as_slice-in-Some-methods.ensures (process_methods_fit c.args.decl.now c.in-Process.class c.in-Some-methods.methods c.in-Process.is c.in-Some-methods.is c.requires)
