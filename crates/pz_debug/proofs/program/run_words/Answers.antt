use Rattle.std.proofs.Common.{Some, None, map, string_bytes}
use Rattle.pz_debug.specs.devices.Asking.{asked_of}
use Rattle.pz_debug.proofs.Asked.{keeps_asked, asked_is, none_is}
use Rattle.pz_debug.proofs.Keeps.{keeps_usage}
use Rattle.pz_debug.proofs.TwoFiles.{keeps_files}
use Rattle.pz_debug.proofs.program.run_words.Goals as goal

pub returns-in-Some : goal.returns-in-Some
returns-in-Some g c =
    let a = asked_of c.in-Some.names in
    let kept = keeps_files a _ _ _ _ c.debug_files.result c.debug_files.ensures in
    record {
      kept = λ b asked. keeps_asked _ _ _ _ c.debug_files.result (Some a) b (asked_is (map string_bytes c.args.words.now) a b c.in-Some.ensures asked) kept;
      reading = kept.reading;
      writing = kept.writing;
    }

pub returns-in-None : goal.returns-in-None
returns-in-None g c =
    let kept = keeps_usage (g.F.Files.state c.args.files.now) _ _ c.say.result (rw c.usage_line.ensures at c.say.ensures) in
    record {
      kept = λ b asked. keeps_asked _ _ _ _ c.say.result None b (none_is (map string_bytes c.args.words.now) b c.in-None.ensures asked) kept;
      reading = kept.reading;
      writing = kept.writing;
    }
