use Rattle.std.proofs.Common.{◌≡◌, ◌∙◌, ap, ℕ}
use Rattle.pz_state.specs.Marks.{Seen}
use Rattle.pz_copy.specs.Unpacking.{shifted_values, unpacked, unpacked_values}
use Rattle.pz_copy.proofs.Unpacked.{same_for}
use Rattle.pz_copy.proofs.Parcelled.{unpacked_within}
use Rattle.pz_copy.proofs.unpacking.unpack.Goals as goal

pub returns-in-Ok-clause-within : goal.returns-in-Ok-clause-within
returns-in-Ok-clause-within c =
    let kept_so : c.keep.new.self.held ≡ c.append.new.state.held = ap (λ (t : Seen). t.held) c.keep.ensures in
    let appended : c.append.new.state.held ≡ unpacked c.mark.new.self.held c.args.parcel.now = ap (λ (t : Seen). t.held) c.in-Ok.ensures.ok in
    let before : unpacked c.mark.new.self.held c.args.parcel.now ≡ unpacked c.args.state.now.held c.args.parcel.now = ap (λ (t : Seen). unpacked t.held c.args.parcel.now) c.in_ok-mark.ensures.ok in
    let copies : c.in_ok-values.values.items ≡ unpacked_values c.args.state.now.held c.args.parcel.now =
    c.in_ok-values.ensures ∙ ap (shifted_values c.objects-count.result) c.values.ensures.values ∙ ap (λ (n : ℕ). shifted_values n c.args.parcel.now.values) c.objects-count.ensures.count in
    unpacked_within c.args.state.now.held c.keep.new.self.held c.args.parcel.now c.in_ok-values.values.items (kept_so ∙ appended ∙ before) copies c.values.ensures.contained

pub returns-in-Ok-clause-sharing : goal.returns-in-Ok-clause-sharing
returns-in-Ok-clause-sharing c =
    let kept_so : c.keep.new.self.held ≡ c.append.new.state.held = ap (λ (t : Seen). t.held) c.keep.ensures in
    let appended : c.append.new.state.held ≡ unpacked c.mark.new.self.held c.args.parcel.now = ap (λ (t : Seen). t.held) c.in-Ok.ensures.ok in
    let before : unpacked c.mark.new.self.held c.args.parcel.now ≡ unpacked c.args.state.now.held c.args.parcel.now = ap (λ (t : Seen). unpacked t.held c.args.parcel.now) c.in_ok-mark.ensures.ok in
    let copies : c.in_ok-values.values.items ≡ unpacked_values c.args.state.now.held c.args.parcel.now =
    c.in_ok-values.ensures ∙ ap (shifted_values c.objects-count.result) c.values.ensures.values ∙ ap (λ (n : ℕ). shifted_values n c.args.parcel.now.values) c.objects-count.ensures.count in
    λ s packed made. same_for s packed c.args.parcel.now c.args.state.now.held c.keep.new.self.held c.in_ok-values.values.items (kept_so ∙ appended ∙ before) copies made
