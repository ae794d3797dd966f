use Rattle.std.proofs.Common.{◌≡◌, ◌∙◌, ◌∷◌}
use Rattle.indexmap.specs.IndexMap.{get}
use Rattle.pz_check_scopes.specs.Scopes.{Note, notes_of, latest}
use Rattle.pz_check_scopes.proofs.Values.{value_of_notes}
use Rattle.pz_check_scopes.proofs.Keeping.{changes_more, noted}
use Rattle.pz_check_scopes.proofs.nested.Nested.note.Goals as goal

pub returns : goal.returns
returns g c = record {
  noted = λ scope outer kept.
      let eq = g.K.PartialEq.eq in
      let scopes = scope ∷ outer in
      let n : Note g.row.K.Denot g.row.V.Denot = record { key = c.args.key; value = c.args.value } in
      let told : c.get-before.result ≡ latest eq (notes_of scopes) c.args.key = c.get-before.ensures.value scopes kept ∙ value_of_notes eq scopes c.args.key in
      record {
        notes = record {
          values = noted eq g.met.K.Eq.laws (get eq c.args.self.now.notes) (get eq c.insert.new.self) n (notes_of scopes) kept.notes.values c.in_ok-insert.ensures.updates.0;
          changes = rw c.in_ok-push.ensures.items (changes_more eq n (notes_of scopes) c.args.self.now.changes.items c.get-before.result kept.notes.changes told);
        };
        starts = kept.starts;
      };
}
