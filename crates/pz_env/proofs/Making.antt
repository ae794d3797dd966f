-- What has been made of the lines of a script so far, and what is still to be made of the rest.
use Rattle.std.proofs.Common.{◌≡◌, refl, sym, ap, ap₂, subst, ◌∙◌, ℕ, suc, ◌<◌, ◌≤◌, List, [], ◌∷◌, ◌++◌, map, length, get_or}
use Rattle.std.specs.Prelude.{if◌then◌else◌}
use Rattle.std.proofs.lemmas.List.{append_assoc, append-nil}
use Rattle.pz_syntax.specs.declared.names.Id.{Id}
use Rattle.pz_syntax.specs.declared.classes.Message.{Message}
use Rattle.pz_syntax.specs.declared.clusters.Channel.{Channel}
use Rattle.pz_syntax.specs.declared.tokens.Pos.{Pos}
use Rattle.pz_syntax.specs.Statements.{Statement, Statements, then}
use Rattle.pz_syntax.specs.StatementView.{sequence_of}
use Rattle.pz_env_tree.specs.pz_env_script.declared.entry.Entry.{Entry}
use Rattle.pz_env_tree.specs.pz_env_rules.Environment.{Line, lines_of}
use Rattle.pz_env_tree.specs.pz_env_rules.Ends.{is_same_end, first_mentions}
use Rattle.pz_env_tree.specs.Names.{end_number, port_of}
use Rattle.pz_env_tree.specs.EnvironmentClass.{is_same_message, first_messages, message_of, waiting, exchange, statements}
use Rattle.pz_env_tree.specs.ClosedTree.{channel_of}
use Rattle.pz_env.specs.devices.Ends.{Named, is_named, has_end, with_end, number_of, end_of_entry}
use Rattle.pz_env.specs.devices.Said.{SaidSo, is_said, said_by_entry, has_said, with_said}
use Rattle.pz_env.specs.devices.Firsts.{firsts}
use Rattle.pz_env.specs.devices.Making.{place_at, port_at, message_at, statements_at, channel_at}
use Rattle.pz_env.specs.devices.Rest.{rest_from, end_of, said_of, new_ends, new_said, listed}
use Rattle.pz_env.proofs.Sets.{same_named}
use Rattle.pz_env.proofs.Firsts as found
use Rattle.pz_env.proofs.Mentions.{rest_step, rest_end, ends_agree, said_agree, same_said, mentions_are, messages_are, number_is}

pub record IsMade (es : List Entry) (i : ℕ) (ends : List Named) (said : List SaidSo) (ports : List Id) (messages : List Message) (body : List (Statement Id Id Id)) : Type 0 where
  pub ends_so : found.IsOnTheWay is_named same_named end_of is_same_end ends_agree (lines_of es) ends (rest_from i es)
  pub ports_so : ports ++ map (port_of (lines_of es)) (new_ends ends (rest_from i es)) ≡ map (port_of (lines_of es)) (firsts is_same_end (lines_of es))
  pub said_so : found.IsOnTheWay is_said same_said said_of is_same_message said_agree (lines_of es) said (rest_from i es)
  pub messages_so : messages ++ map (message_of (lines_of es)) (new_said said (rest_from i es)) ≡ map (message_of (lines_of es)) (firsts is_same_message (lines_of es))
  pub body_so : body ++ listed (lines_of es) (rest_from i es) ≡ listed (lines_of es) (lines_of es)

pub nothing_made : (es : List Entry) → IsMade es 0 [] [] [] [] []
nothing_made es = record {
  ends_so = found.at_the_start is_named same_named end_of is_same_end ends_agree (lines_of es);
  ports_so = ap (map (port_of (lines_of es))) (found.all_new is_named same_named end_of is_same_end ends_agree (lines_of es));
  said_so = found.at_the_start is_said same_said said_of is_same_message said_agree (lines_of es);
  messages_so = ap (map (message_of (lines_of es))) (found.all_new is_said same_said said_of is_same_message said_agree (lines_of es));
  body_so = refl;
}

pub at_first : (es : List Entry) (ends : List Named) (said : List SaidSo) (ports : List Id) (messages : List Message) (body : List (Statement Id Id Id))
    → ends ≡ [] → said ≡ [] → ports ≡ [] → messages ≡ [] → body ≡ [] → IsMade es 0 ends said ports messages body
at_first es ends said ports messages body a b c d e = rw (a, b, c, d, e) (nothing_made es)

-- one line more
pub line_made : (es : List Entry) (e : Entry) (i j : ℕ) (at : Pos) (ends : List Named) (said : List SaidSo) (ports : List Id) (messages : List Message) (body : List (Statement Id Id Id))
    (new_ends : List Named) (new_said : List SaidSo) (new_ports : List Id) (new_messages : List Message) (new_body : List (Statement Id Id Id))
    → i < length es → e ≡ get_or es i e → j ≡ suc i → at ≡ place_at (suc i)
    → new_ends ≡ with_end ends (end_of_entry e)
    → new_ports ≡ (if has_end ends (end_of_entry e) then ports else ports ++ port_at at (number_of ends (end_of_entry e)) ∷ [])
    → new_said ≡ with_said said (said_by_entry e)
    → new_messages ≡ (if has_said said (said_by_entry e) then messages else messages ++ message_at at (number_of ends (end_of_entry e)) e ∷ [])
    → new_body ≡ body ++ statements_at at (number_of ends (end_of_entry e)) e
    → IsMade es i ends said ports messages body → IsMade es j new_ends new_said new_ports new_messages new_body
line_made es e i j at ends said ports messages body later_ends later_said later_ports later_messages later_body within here after is_at is_ends is_ports is_said_so is_messages is_body made =
    let lines : List Line = lines_of es in
    let x : Line = record { number = suc i; entry = e } in
    let rest : List Line = rest_from j es in
    let are : rest_from i es ≡ x ∷ rest = rest_step es e i j within here after in
    let on : found.IsOnTheWay is_named same_named end_of is_same_end ends_agree lines ends (x ∷ rest) = subst (found.IsOnTheWay is_named same_named end_of is_same_end ends_agree lines ends) are made.ends_so in
    let on_said : found.IsOnTheWay is_said same_said said_of is_same_message said_agree lines said (x ∷ rest) = subst (found.IsOnTheWay is_said same_said said_of is_same_message said_agree lines said) are made.said_so in
    let number : number_of ends (end_of_entry e) ≡ end_number lines x = number_is lines ends x rest on in
    let port : port_at at (number_of ends (end_of_entry e)) ≡ port_of lines x = ap₂ (λ (p : Pos) (n : ℕ). port_at p n) is_at number in
    let message : message_at at (number_of ends (end_of_entry e)) e ≡ message_of lines x = ap₂ (λ (p : Pos) (n : ℕ). message_at p n e) is_at number in
    let both : statements_at at (number_of ends (end_of_entry e)) e ≡ statements_at (place_at (suc i)) (end_number lines x) e = ap₂ (λ (p : Pos) (n : ℕ). statements_at p n e) is_at number in
    record {
      ends_so = subst (λ (ns : List Named). found.IsOnTheWay is_named same_named end_of is_same_end ends_agree lines ns rest) (sym is_ends) (found.goes_on is_named same_named end_of is_same_end ends_agree lines ends x rest on);
      ports_so = ap (λ (ns : List Named). later_ports ++ map (port_of lines) (new_ends ns rest)) is_ends
          ∙ found.collects is_named same_named end_of (port_of lines) ends x rest ports later_ports _ _ port is_ports (subst (λ (xs : List Line). ports ++ map (port_of lines) (new_ends ends xs) ≡ map (port_of lines) (firsts is_same_end lines)) are made.ports_so);
      said_so = subst (λ (ns : List SaidSo). found.IsOnTheWay is_said same_said said_of is_same_message said_agree lines ns rest) (sym is_said_so) (found.goes_on is_said same_said said_of is_same_message said_agree lines said x rest on_said);
      messages_so = ap (λ (ns : List SaidSo). later_messages ++ map (message_of lines) (new_said ns rest)) is_said_so
          ∙ found.collects is_said same_said said_of (message_of lines) said x rest messages later_messages _ _ message is_messages (subst (λ (xs : List Line). messages ++ map (message_of lines) (new_said said xs) ≡ map (message_of lines) (firsts is_same_message lines)) are made.messages_so);
      body_so = ap (λ (ss : List (Statement Id Id Id)). ss ++ listed lines rest) (is_body ∙ ap (λ (ss : List (Statement Id Id Id)). body ++ ss) both)
          ∙ append_assoc body _ (listed lines rest)
          ∙ sym (ap (λ (xs : List Line). body ++ listed lines xs) are)
          ∙ made.body_so;
    }

-- the statements one by one are the statements of the method
pub listed_are : (lines xs : List Line) → sequence_of (listed lines xs) ≡ statements lines xs
listed_are lines [] = refl
listed_are lines (x ∷ xs) = ap (λ (ss : Statements Id Id Id). (then) (waiting x) ((then) (exchange lines x x.entry.transfer) ss)) (listed_are lines xs)

pub all_made : (es : List Entry) (i : ℕ) (ends : List Named) (said : List SaidSo) (ports : List Id) (messages : List Message) (body : List (Statement Id Id Id)) → length es ≤ i → IsMade es i ends said ports messages body
    → (ports ≡ map (port_of (lines_of es)) (first_mentions (lines_of es))) × (messages ≡ map (message_of (lines_of es)) (first_messages (lines_of es))) × (sequence_of body ≡ statements (lines_of es) (lines_of es))
all_made es i ends said ports messages body past made =
    let lines : List Line = lines_of es in
    let none : rest_from i es ≡ [] = rest_end es i past in (
      sym (append-nil ports) ∙ sym (ap (λ (xs : List Line). ports ++ map (port_of lines) (new_ends ends xs)) none) ∙ made.ports_so ∙ sym (ap (map (port_of lines)) (mentions_are lines)),
      sym (append-nil messages) ∙ sym (ap (λ (xs : List Line). messages ++ map (message_of lines) (new_said said xs)) none) ∙ made.messages_so ∙ sym (ap (map (message_of lines)) (messages_are lines)),
      ap sequence_of (sym (append-nil body) ∙ sym (ap (λ (xs : List Line). body ++ listed lines xs) none) ∙ made.body_so) ∙ listed_are lines lines,
    )

-- Channels

pub record AreJoined (es : List Entry) (i : ℕ) (ends : List Named) (old channels : List Channel) : Type 0 where
  pub ends_so : found.IsOnTheWay is_named same_named end_of is_same_end ends_agree (lines_of es) ends (rest_from i es)
  pub channels_so : channels ++ map (channel_of (lines_of es)) (new_ends ends (rest_from i es)) ≡ old ++ map (channel_of (lines_of es)) (firsts is_same_end (lines_of es))

pub none_joined : (es : List Entry) (ends : List Named) (old : List Channel) → ends ≡ [] → AreJoined es 0 ends old old
none_joined es ends old none = rw none (record {
  ends_so = found.at_the_start is_named same_named end_of is_same_end ends_agree (lines_of es);
  channels_so = ap (λ (xs : List Line). old ++ map (channel_of (lines_of es)) xs) (found.all_new is_named same_named end_of is_same_end ends_agree (lines_of es));
})

pub line_joined : (es : List Entry) (e : Entry) (i j : ℕ) (at : Pos) (ends later_ends : List Named) (old channels later : List Channel)
    → i < length es → e ≡ get_or es i e → j ≡ suc i → at ≡ place_at (suc i) → later_ends ≡ with_end ends (end_of_entry e)
    → later ≡ (if has_end ends (end_of_entry e) then channels else channels ++ channel_at at (number_of ends (end_of_entry e)) e ∷ [])
    → AreJoined es i ends old channels → AreJoined es j later_ends old later
line_joined es e i j at ends later_ends old channels later within here after is_at is_ends is_later joined =
    let lines : List Line = lines_of es in
    let x : Line = record { number = suc i; entry = e } in
    let rest : List Line = rest_from j es in
    let are : rest_from i es ≡ x ∷ rest = rest_step es e i j within here after in
    let on : found.IsOnTheWay is_named same_named end_of is_same_end ends_agree lines ends (x ∷ rest) = subst (found.IsOnTheWay is_named same_named end_of is_same_end ends_agree lines ends) are joined.ends_so in
    let channel : channel_at at (number_of ends (end_of_entry e)) e ≡ channel_of lines x = ap₂ (λ (p : Pos) (n : ℕ). channel_at p n e) is_at (number_is lines ends x rest on) in
    record {
      ends_so = subst (λ (ns : List Named). found.IsOnTheWay is_named same_named end_of is_same_end ends_agree lines ns rest) (sym is_ends) (found.goes_on is_named same_named end_of is_same_end ends_agree lines ends x rest on);
      channels_so = ap (λ (ns : List Named). later ++ map (channel_of lines) (new_ends ns rest)) is_ends
          ∙ found.collects is_named same_named end_of (channel_of lines) ends x rest channels later _ _ channel is_later (subst (λ (xs : List Line). channels ++ map (channel_of lines) (new_ends ends xs) ≡ old ++ map (channel_of lines) (firsts is_same_end lines)) are joined.channels_so);
    }

pub all_joined : (es : List Entry) (i : ℕ) (ends : List Named) (old channels : List Channel) → length es ≤ i → AreJoined es i ends old channels
    → channels ≡ old ++ map (channel_of (lines_of es)) (first_mentions (lines_of es))
all_joined es i ends old channels past joined =
    sym (append-nil channels) ∙ sym (ap (λ (xs : List Line). channels ++ map (channel_of (lines_of es)) (new_ends ends xs)) (rest_end es i past)) ∙ joined.channels_so
    ∙ sym (ap (λ (xs : List Line). old ++ map (channel_of (lines_of es)) xs) (mentions_are (lines_of es)))
