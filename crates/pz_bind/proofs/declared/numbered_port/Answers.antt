use Rattle.std.proofs.Common.{◌≡◌, ◌∙◌, sym, ap, ℕ, ◌+◌, ◌<◌, List, length, arith}
use Rattle.pz_bind_rules.specs.pz_classes_code.Places.{place_in}
use Rattle.pz_classes.specs.CheckedView.{checked_model}
use Rattle.pz_bind_rules.specs.pz_classes_rules.Members.{own_ports, spelled}
use Rattle.pz_bind.proofs.Gets.{number_merely, none_declared, none_inherited}
use Rattle.pz_bind.proofs.declared.numbered_port.Goals as goal

pub ports-requires : goal.ports-requires
ports-requires c = c.count.ensures.belongs (record { 0 = c.args.class }) c.if-class-count.true

pub returns-then-class-count : goal.returns-then-class-count
returns-then-class-count c = number_merely _ _ c.classes-classes.ensures.tabled (λ known. c.place.ensures ∙ ap (λ (names : List (List ℕ)). place_in names c.args.name.now) (c.ports.ensures (checked_model c.args.checked.now) known))

pub returns-else-class-count : goal.returns-else-class-count
returns-else-class-count c =
    let m = checked_model c.args.checked.now in
    number_merely _ _ c.classes-classes.ensures.tabled (λ known.
    let count : c.count.result ≡ length m.decls + 1 = c.count.ensures.count m known in
    let past : length m.decls < c.args.class = let beyond = c.if-class-count.false in omega arith in
    sym (ap (λ ids. place_in (spelled ids) c.args.name.now) (none_inherited own_ports m c.args.class (none_declared m c.args.class past))))
