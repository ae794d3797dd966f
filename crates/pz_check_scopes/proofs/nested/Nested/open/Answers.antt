use Rattle.std.proofs.Common.{◌≡◌, ◌∙◌, ap, length}
use Rattle.pz_check_scopes.specs.Scopes.{notes_of}
use Rattle.pz_check_scopes.proofs.Keeping.{length_changes}
use Rattle.pz_check_scopes.proofs.Closing.{starts_more}
use Rattle.pz_check_scopes.proofs.nested.Nested.open.Goals as goal

pub returns : goal.returns
returns g c = record {
  opened = λ scopes kept.
      let many : c.len.result ≡ length (notes_of scopes) = c.len.ensures ∙ (c.args.self.now.changes.ok.0 ∙ (ap length kept.notes.changes ∙ length_changes g.K.PartialEq.eq (notes_of scopes))) in
      record {
        notes = record { values = kept.notes.values; changes = kept.notes.changes };
        starts = rw c.in_ok-push.ensures.items (starts_more scopes c.args.self.now.starts.items c.len.result kept.starts many);
      };
}
