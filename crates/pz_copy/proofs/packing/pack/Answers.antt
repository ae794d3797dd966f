use Rattle.std.proofs.Common.{ap, ◌∙◌}
use Rattle.std.proofs.lemmas.Result.{IfOk-weaker}
use Rattle.pz_copy.specs.Parcels.{ParcelView, plain_objects}
use Rattle.pz_copy.proofs.Parcelled.{parcel_fine, alone_fine, packed_alone}
use Rattle.pz_copy.proofs.packing.pack.Goals as goal

pub new-requires : goal.new-requires
new-requires c = parcel_fine c.args.state.now.held c.args.values.now c.in_ok-listed.listed.keys c.in_ok-listed.ensures.listing c.in_ok-copies.copies.items (plain_objects c.in_ok-objects.objects.items) c.in_ok-copies.ensures c.in_ok-objects.ensures.objects c.in_ok-listed.ensures.few c.in_ok-objects.ensures.sizes

pub of_values-requires : goal.of_values-requires
of_values-requires c =
    alone_fine c.args.state.now.held c.args.values.now c.in_ok-listed.listed.keys c.in_ok-listed.ensures.listing (c.is_empty.ensures.0 c.if-is_empty.true)

pub returns-then-is_empty-clause-parcel : goal.returns-then-is_empty-clause-parcel
returns-then-is_empty-clause-parcel c =
    IfOk-weaker c.of_values.result _ _ (λ parcel is. packed_alone c.args.state.now.held c.args.values.now c.in_ok-listed.listed.keys c.in_ok-listed.ensures.listing (c.is_empty.ensures.0 c.if-is_empty.true) parcel is) c.of_values.ensures

pub returns-clause-parcel : goal.returns-clause-parcel
returns-clause-parcel c = IfOk-weaker c.new.result _ _ (λ parcel is. record {
  listed = c.in_ok-listed.listed.keys;
  listing = c.in_ok-listed.ensures.listing;
  values = ap (λ (p : ParcelView). p.values) is ∙ c.in_ok-copies.ensures;
  objects = ap (λ (p : ParcelView). p.objects) is ∙ c.in_ok-objects.ensures.objects;
}) c.new.ensures
