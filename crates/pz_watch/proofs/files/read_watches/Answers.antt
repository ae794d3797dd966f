-- The lines are those between the ends of lines of the file.
use Rattle.std.proofs.Common.{◌≡◌, sym, subst, ap, map, ◌∙◌, ℕ}
use Rattle.std.specs.Prelude.{eqb}
use Rattle.std.specs.List.{slice_split}
use Rattle.pz_lines.specs.Identifiers.{is_identifier}
use Rattle.pz_lines.specs.devices.Lacking.{EachLacks}
use Rattle.pz_lines.proofs.HandedOn.{error_on}
use Rattle.pz_lines.proofs.Splits.{split_lacks}
use Rattle.pz_watch.specs.declared.errors.ReadWatchesError.TheVariants.{Refused}
use Rattle.pz_watch.specs.Files.{IsRefusedAt, empty}
use Rattle.pz_watch.proofs.FileLines.{refused_same, some_lines, file_read, file_refused, nothing, something}
use Rattle.pz_watch.proofs.files.read_watches.Goals as goal

pub returns-then-is_empty-clause-refused : goal.returns-then-is_empty-clause-refused
returns-then-is_empty-clause-refused c = λ line same.
    subst
    (λ (n : ℕ). IsRefusedAt is_identifier c.args.text.now n)
    (sym (refused_same 1 line same))
    (empty (nothing c.args.text.now (sym c.is_empty.ensures ∙ c.if-is_empty.true)))

pub take_watches-requires-clause-lines : goal.take_watches-requires-clause-lines
take_watches-requires-clause-lines c =
    let cut : c.new.result ≡ slice_split (λ b. eqb b 10) c.args.text.now = c.new.ensures ∙ ap (map (λ w. w.now)) c.as_slice.ensures.value ∙ c.in_ok-lines.ensures in
    subst (EachLacks 10) (sym cut) (split_lacks 10 c.args.text.now)

pub take_watches-requires-clause-some : goal.take_watches-requires-clause-some
take_watches-requires-clause-some c =
    let cut : c.new.result ≡ slice_split (λ b. eqb b 10) c.args.text.now = c.new.ensures ∙ ap (map (λ w. w.now)) c.as_slice.ensures.value ∙ c.in_ok-lines.ensures in
    some_lines c.args.text.now c.new.result cut

pub returns-in_err-take_watches-clause-refused : goal.returns-in_err-take_watches-clause-refused
returns-in_err-take_watches-clause-refused c =
    let cut : c.new.result ≡ slice_split (λ b. eqb b 10) c.args.text.now = c.new.ensures ∙ ap (map (λ w. w.now)) c.as_slice.ensures.value ∙ c.in_ok-lines.ensures in
    error_on
    (λ e. (line : ℕ) → e ≡ Refused line → IsRefusedAt is_identifier c.args.text.now line)
    c.from_residual-in_err-take_watches.result
    c.in_err-take_watches.field-0.0
    c.from_residual-in_err-take_watches.ensures.1
    (λ line same. file_refused c.args.text.now c.new.result line cut (c.in_err-take_watches.ensures.refused line same))

pub returns-clause-found : goal.returns-clause-found
returns-clause-found c =
    let cut : c.new.result ≡ slice_split (λ b. eqb b 10) c.args.text.now = c.new.ensures ∙ ap (map (λ w. w.now)) c.as_slice.ensures.value ∙ c.in_ok-lines.ensures in
    file_read
    c.args.text.now
    c.new.result
    c.take_watches.new.watches
    (something c.args.text.now (sym c.is_empty.ensures ∙ c.if-is_empty.false))
    cut
    c.in_ok-take_watches.ensures.taken
