-- The words are those between the blanks of the line.
use Rattle.std.proofs.Common.{◌≡◌, ◌≢◌, ◌∙◌, ap, map}
use Rattle.std.specs.Prelude.{eqb}
use Rattle.std.specs.List.{slice_split}
use Rattle.pz_lines.specs.Identifiers.{is_identifier}
use Rattle.pz_lines.proofs.HandedOn.{ok_more, err_more}
use Rattle.pz_watch.specs.declared.errors.ReadWatchError.{ReadWatchError}
use Rattle.pz_watch.specs.declared.errors.ReadWatchError.TheVariants.{Malformed}
use Rattle.pz_watch.specs.declared.watch.Watch.{Watch}
use Rattle.pz_watch.specs.Files.{NamedFormula, IsWatch, watch_text}
use Rattle.pz_watch.specs.devices.Taking.{IsMadeFrom, IsReadFrom, AreOfNoWatch}
use Rattle.pz_watch.proofs.WatchLines.{read_from, never_read}
use Rattle.pz_watch.proofs.watch.Watch.read.Goals as goal

pub returns-clause-found : goal.returns-clause-found
returns-clause-found c =
    let cut : c.new.result ≡ slice_split (λ b. eqb b 32) c.args.line.now = c.new.ensures ∙ ap (map (λ w. w.now)) c.as_slice.ensures.value ∙ c.in_ok-words.ensures in
    ok_more
    (λ (w : Watch). IsMadeFrom c.new.result w)
    (λ (w : Watch). IsReadFrom c.args.line.now w)
    c.take_watch.result
    (λ w made. read_from c.args.line.now c.new.result w cut made)
    c.take_watch.ensures.found

pub returns-clause-malformed : goal.returns-clause-malformed
returns-clause-malformed c =
    let cut : c.new.result ≡ slice_split (λ b. eqb b 32) c.args.line.now = c.new.ensures ∙ ap (map (λ w. w.now)) c.as_slice.ensures.value ∙ c.in_ok-words.ensures in
    err_more
    (λ (e : ReadWatchError). e ≡ Malformed → AreOfNoWatch c.new.result)
    (λ (e : ReadWatchError). e ≡ Malformed → (w : NamedFormula) → IsWatch is_identifier w → c.args.line.now ≢ watch_text w)
    c.take_watch.result
    (λ e none is. never_read c.args.line.now c.new.result cut (none is))
    c.take_watch.ensures.malformed
