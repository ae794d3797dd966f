-- The lines are those between the ends of lines of the text.
use Rattle.std.proofs.Common.{◌≡◌, sym, subst, ap, map, ◌∙◌, ℕ}
use Rattle.std.specs.Prelude.{eqb}
use Rattle.std.specs.List.{slice_split}
use Rattle.pz_lines.specs.devices.Lacking.{EachLacks}
use Rattle.pz_lines.proofs.HandedOn.{error_on}
use Rattle.pz_lines.proofs.Splits.{split_lacks}
use Rattle.pz_env_script.specs.declared.errors.ReadScriptError.TheVariants.{Malformed}
use Rattle.pz_env_script.specs.Scripts.{IsMalformedAt, empty}
use Rattle.pz_env_script.proofs.ScriptLines.{some_lines, script_read, script_refused, nothing, something, malformed_same}
use Rattle.pz_env_script.proofs.script.Script.read.Goals as goal

pub returns-then-is_empty-clause-malformed : goal.returns-then-is_empty-clause-malformed
returns-then-is_empty-clause-malformed c = λ line same.
    subst
    (IsMalformedAt c.args.text.now)
    (sym (malformed_same 1 line same))
    (empty (nothing c.args.text.now (sym c.is_empty.ensures ∙ c.if-is_empty.true)))

pub take_entries-requires-clause-lines : goal.take_entries-requires-clause-lines
take_entries-requires-clause-lines c =
    let cut : c.new.result ≡ slice_split (λ b. eqb b 10) c.args.text.now = c.new.ensures ∙ ap (map (λ w. w.now)) c.as_slice.ensures.value ∙ c.in_ok-lines.ensures in
    subst (EachLacks 10) (sym cut) (split_lacks 10 c.args.text.now)

pub take_entries-requires-clause-some : goal.take_entries-requires-clause-some
take_entries-requires-clause-some c =
    let cut : c.new.result ≡ slice_split (λ b. eqb b 10) c.args.text.now = c.new.ensures ∙ ap (map (λ w. w.now)) c.as_slice.ensures.value ∙ c.in_ok-lines.ensures in
    some_lines c.args.text.now c.new.result cut

pub returns-in_err-take_entries-clause-malformed : goal.returns-in_err-take_entries-clause-malformed
returns-in_err-take_entries-clause-malformed c =
    let cut : c.new.result ≡ slice_split (λ b. eqb b 10) c.args.text.now = c.new.ensures ∙ ap (map (λ w. w.now)) c.as_slice.ensures.value ∙ c.in_ok-lines.ensures in
    error_on
    (λ e. (line : ℕ) → e ≡ Malformed line → IsMalformedAt c.args.text.now line)
    c.from_residual-in_err-take_entries.result
    c.in_err-take_entries.field-0.0
    c.from_residual-in_err-take_entries.ensures.1
    (λ line same. script_refused c.args.text.now c.new.result line cut (c.in_err-take_entries.ensures.malformed line same))

pub returns-clause-found : goal.returns-clause-found
returns-clause-found c =
    let cut : c.new.result ≡ slice_split (λ b. eqb b 10) c.args.text.now = c.new.ensures ∙ ap (map (λ w. w.now)) c.as_slice.ensures.value ∙ c.in_ok-lines.ensures in
    script_read
    c.args.text.now
    c.new.result
    c.take_entries.new.entries
    (something c.args.text.now (sym c.is_empty.ensures ∙ c.if-is_empty.false))
    cut
    c.in_ok-take_entries.ensures.taken

pub invariant_of-result : goal.invariant_of-result
invariant_of-result c =
    let cut : c.new.result ≡ slice_split (λ b. eqb b 10) c.args.text.now = c.new.ensures ∙ ap (map (λ w. w.now)) c.as_slice.ensures.value ∙ c.in_ok-lines.ensures in
    let some = something c.args.text.now (sym c.is_empty.ensures ∙ c.if-is_empty.false) in
    ∣ (c.args.text.now, script_read c.args.text.now c.new.result c.take_entries.new.entries some cut c.in_ok-take_entries.ensures.taken) ∣₁
