use Rattle.std.proofs.Common.{◌≡◌, ◌∙◌, ap, subst, ◌<◌, length, get_or, arith}
use Rattle.pz_check_scopes.specs.Scopes.{notes_of, outermost}
use Rattle.pz_check_scopes.specs.devices.Holding.{Keeps}
use Rattle.pz_check_scopes.proofs.Outermost.{outermost_all}
use Rattle.pz_check_scopes.proofs.Closing.{length_starts, start_of, outermost_starts, outermost_notes}
use Rattle.pz_check_scopes.proofs.nested.Nested.close_to.Goals as goal

pub returns-then-depth-len : goal.returns-then-depth-len
returns-then-depth-len g c = record {
  closed = λ scopes kept.
      let depth = c.args.depth in
      let count = c.index-start.result.now in
      let many : length c.args.self.now.starts.items ≡ length scopes = ap length kept.starts ∙ length_starts scopes in
      let within : depth < length scopes = omega (arith, many) in
      let start : count ≡ length (notes_of (outermost depth scopes)) = c.index-start.ensures ∙ (ap (λ starts. get_or starts depth count) kept.starts ∙ start_of depth scopes within count) in
      let staying : outermost count (notes_of scopes) ≡ notes_of (outermost depth scopes) = ap (λ n. outermost n (notes_of scopes)) start ∙ outermost_notes depth scopes in
      let taken_back : Keeps g.K.PartialEq.eq (outermost count (notes_of scopes)) c.take_back_to.new.self
      = c.take_back_to.ensures.back (notes_of scopes) (record { values = kept.notes.values; changes = kept.notes.changes }) in
      record {
        notes = subst (λ notes. Keeps g.K.PartialEq.eq notes c.take_back_to.new.self) staying taken_back;
        starts = rw (c.take_back_to.ensures.starts, c.truncate.ensures.items, kept.starts) (outermost_starts depth scopes);
      };
}

pub returns-else-depth-len : goal.returns-else-depth-len
returns-else-depth-len g c = record {
  closed = λ scopes kept.
      let many : length c.args.self.now.starts.items ≡ length scopes = ap length kept.starts ∙ length_starts scopes in
      let all : outermost c.args.depth scopes ≡ scopes = outermost_all c.args.depth scopes (omega (arith, many)) in
      rw all (record { notes = record { values = kept.notes.values; changes = kept.notes.changes }; starts = kept.starts });
}
