-- The names are identifiers, and fewer than five words are no entry.
use Rattle.std.proofs.Common.{sym, ◌∙◌, ℕ, List, [], Bor, slice_index_or}
use Rattle.pz_env_script.proofs.EntryWords.{few_words, three_names}
use Rattle.pz_env_script.proofs.reading.entry.Goals as goal

abbrev at : List (Bor (List ℕ)) → ℕ → List ℕ
at words k = (slice_index_or words k (record { ref_ptr = (0, 0); now = [] })).now

pub name-requires-in-len5-up : goal.name-requires-in-len5-up
name-requires-in-len5-up c =
    let words = c.args.words.now in
    (three_names (at words 2) (at words 3) (at words 4) (sym c.are_names.ensures ∙ c.if-not-are_names.false)).1

pub name-requires-in-len5-up-2 : goal.name-requires-in-len5-up-2
name-requires-in-len5-up-2 c =
    let words = c.args.words.now in
    (three_names (at words 2) (at words 3) (at words 4) (sym c.are_names.ensures ∙ c.if-not-are_names.false)).2

pub returns-in_default-clause-malformed : goal.returns-in_default-clause-malformed
returns-in_default-clause-malformed c = λ is. few_words c.args.words.now c.in_default.len_below
