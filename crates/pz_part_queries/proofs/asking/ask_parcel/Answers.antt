use Rattle.std.proofs.Common.{◌∙◌}
use Rattle.pz_classes_code.specs.CodeView.{list_view}
use Rattle.pz_part_queries.specs.Standpoints.{seen_from}
use Rattle.pz_part_queries.proofs.Asked.{parcel_asked, not_written, list_written}
use Rattle.pz_part_queries.proofs.asking.ask_parcel.Goals as goal

pub returns-in_default-clause-packs : goal.returns-in_default-clause-packs
returns-in_default-clause-packs c = λ m class known.
    not_written (seen_from m c.args.here.now class c.args.state.now.held) c.args.frame.0 c.args.pos c.args.args.now c.in_ok-pack.field-0 c.in_default.is c.in_ok-pack.ensures.parcel

pub returns-clause-packs : goal.returns-clause-packs
returns-clause-packs c = λ m class known.
    let a = seen_from m c.args.here.now class c.args.state.now.held in
    list_written a c.args.frame.0 c.args.pos c.args.args.now c.in-Some.codes c.as_slice-codes.result.now c.parcel_or_trouble.result c.in-Some.is (c.as_slice-codes.ensures ∙ c.get.ensures)
    (parcel_asked a c.args.frame.0 c.args.pos c.allowance-allowed.result c.allowance-allowed.ensures (list_view c.as_slice-codes.result.now) c.in_ok-parceled.parceled c.parcel_or_trouble.result
    (c.in_ok-parceled.ensures.finds m known) c.parcel_or_trouble.ensures)
