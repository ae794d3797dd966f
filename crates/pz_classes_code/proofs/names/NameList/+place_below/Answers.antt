use Rattle.std.proofs.Common.{◌≡◌, ◌≤◌, ◌⊎◌, sym, ap, ◌∙◌, take, arith}
use Rattle.pz_classes_code.specs.Places.{place_in}
use Rattle.pz_classes_code.specs.Listed.{Listed}
use Rattle.pz_classes_code.proofs.Places.{topmost, among, first_of, else_of}
use Rattle.pz_classes_code.proofs.names.NameList.+place_below.Goals as goal

pub returns-in_default : goal.returns-in_default
returns-in_default t c =
    let fits = c.ranges.bound.fits in
    c.number_under.ensures
    ∙ topmost c.args.self.now c.self.inside.above c.self.inside.own c.self.inside.places c.self.view_is c.self.invariant c.args.bound (omega (arith, fits)) c.args.name.now c.in_default.is

pub returns-in-Some-place_below : goal.returns-in-Some-place_below
returns-in-Some-place_below t c =
    let fits = c.ranges.bound.fits in
    let lesser : ((c.min-before.result ≡ c.args.bound) × (c.args.bound ≤ c.front.inside.count)) ⊎ ((c.min-before.result ≡ c.front.inside.count) × (c.front.inside.count ≤ c.args.bound)) =
    (let is = c.min-before.ensures in grind arith) in
    first_of _ _ _ (sym c.in-Some-place_below.is ∙ c.place_below.ensures ∙ ap (λ (l : Listed). place_in (take c.min-before.result l.names) c.args.name.now) c.get.ensures)
    (among c.args.self.now c.self.inside.above c.self.inside.own c.self.inside.places c.self.view_is c.self.invariant c.args.bound (omega (arith, fits)) c.args.name.now
    c.in-Some.front c.front.inside.list c.front.inside.count c.min-before.result c.in-Some.is c.front.view_is c.front.invariant lesser)

pub returns-in-None : goal.returns-in-None
returns-in-None t c =
    let fits = c.ranges.bound.fits in
    let lesser : ((c.min-before.result ≡ c.args.bound) × (c.args.bound ≤ c.front.inside.count)) ⊎ ((c.min-before.result ≡ c.front.inside.count) × (c.front.inside.count ≤ c.args.bound)) =
    (let is = c.min-before.ensures in grind arith) in
    c.place_behind.ensures
    ∙ else_of _ _ _ (sym c.in-None.is ∙ c.place_below.ensures ∙ ap (λ (l : Listed). place_in (take c.min-before.result l.names) c.args.name.now) c.get.ensures)
    (among c.args.self.now c.self.inside.above c.self.inside.own c.self.inside.places c.self.view_is c.self.invariant c.args.bound (omega (arith, fits)) c.args.name.now
    c.in-Some.front c.front.inside.list c.front.inside.count c.min-before.result c.in-Some.is c.front.view_is c.front.invariant lesser)
