use Rattle.std.proofs.Common.{◌≡◌, refl, sym, ◌∙◌, ap, ℕ, List, [], ◌∷◌, take, length, get_or, ◌+◌, ◌<◌}
use Rattle.pz_state.specs.pz_value.declared.value.Value.{Value}
use Rattle.pz_copy.specs.References.{reference_of, references}
use Rattle.pz_copy.specs.devices.Gathering.{gathered}
use Rattle.pz_copy.proofs.Gathered.{gathered_append}
use Rattle.pz_copy.proofs.Listings.{references_next, no_reference}
use Rattle.pz_copy.proofs.listing.list_references.Goals as goal
use Rattle.pz_copy.proofs.listing.list_references.Goals.{in-Ref+in_ok-insert, in_default}

on : (listed keys : List ℕ) (vs : List Value) (i : ℕ) (v : Value) → i < length vs → v ≡ get_or vs i v → keys ≡ gathered listed (references (take i vs)) → gathered keys (reference_of v) ≡ gathered listed (references (take (i + 1) vs))
on listed keys vs i v below is so_far = ap (λ l. gathered l (reference_of v)) so_far ∙ sym (gathered_append listed (references (take i vs)) (reference_of v)) ∙ ap (gathered listed) (sym (references_next vs i v below is))

pub loop-value-preserved : goal.loop-value-preserved
loop-value-preserved c =
    let step : gathered c.loop-value.listed.keys (reference_of c.value-item.result) ≡ gathered c.args.listed.now.keys (references (take (c.loop-value.value-index + 1) c.args.values.now)) = on c.args.listed.now.keys c.loop-value.listed.keys c.args.values.now c.loop-value.value-index c.value-item.result c.loop-value-test.true c.value-item.is c.loop-value.invariant in
    elim c.match-value.branch [
      | in-Ref+in_ok-insert w ↦
          let same : c.match-value.listed.keys ≡ w.insert.new.self.keys = rw w.listed-is refl in
          let inserted : w.insert.new.self.keys ≡ gathered c.loop-value.listed.keys (w.in-Ref.r ∷ []) = w.in_ok-insert.ensures.keys in
          let here : gathered c.loop-value.listed.keys (reference_of c.value-item.result) ≡ gathered c.loop-value.listed.keys (w.in-Ref.r ∷ []) = ap (λ (v : Value). gathered c.loop-value.listed.keys (reference_of v)) w.in-Ref.is in
          same ∙ inserted ∙ sym here ∙ step
      | in_default w ↦
          let same : c.match-value.listed.keys ≡ c.loop-value.listed.keys = rw w.listed-is refl in
          let none : reference_of c.value-item.result ≡ [] = no_reference c.value-item.result w.in_default.not-Ref in
          same ∙ sym (ap (gathered c.loop-value.listed.keys) none) ∙ step
    ]
