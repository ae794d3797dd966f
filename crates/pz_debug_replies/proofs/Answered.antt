-- A text of commands on its way: what was written of its replies.
use Rattle.std.proofs.Common.{◌≡◌, ◌+◌, ◌<◌, ℕ, suc, List, [], ◌∷◌, ◌++◌, length, Some, None, Result, Ok, Err, refl, sym, ap, subst, ◌∙◌, append_assoc, arith}
use Rattle.std.specs.Prelude.{codes}
use Rattle.std.proofs.lemmas.List.{append-nil, length-append}
use Rattle.pz_io.specs.Outside.{SinkState}
use Rattle.pz_io.specs.declared.writing.Halt.{Halt}
use Rattle.pz_rules.specs.Settings.{Setting}
use Rattle.pz_term_simulator.specs.Simulations.{Simulation, setting_in}
use Rattle.pz_debug_commands.specs.Commands.{Command}
use Rattle.pz_debug_commands.specs.Lines.{BeginsWithLine, ended, last}
use Rattle.pz_debug_commands.specs.Texts as texts
use Rattle.pz_debug_commands.specs.Texts.{BeginsWithCommand, AreCommands}
use Rattle.pz_debug_session.specs.declared.step.Step.{Step}
use Rattle.pz_rules.specs.pz_classes_rules.Soundness.{IsSound}
use Rattle.pz_debug_session.specs.Steps.{StandsAfter}
use Rattle.pz_debug_replies.specs.Replies.{Replies}
use Rattle.pz_debug_replies.specs.Sessions.{RepliesAll, none, more}
use Rattle.pz_debug_replies.specs.Replying.{IsAt, Replied, WroteSession}
use Rattle.pz_debug_replies.specs.devices.Known.{Known}
use Rattle.pz_debug_replies.specs.devices.Answering.{IsAnswered}
use Rattle.pz_debug_replies.proofs.Existing.{some_text}
use Rattle.pz_debug_replies.proofs.Leading.{reply_leads}

-- a first line makes a text shorter
pub shorter : (text line rest : List ℕ) → BeginsWithLine text line rest → length rest < length text
shorter text line rest (ended lacks is) =
    let counted : length text ≡ length line + length (codes "\n" ++ rest) = ap (λ (l : List ℕ). length l) is ∙ length-append line (codes "\n" ++ rest) in
    omega (arith, counted)
shorter text line rest (last lacks some is over) =
    let none_left : length rest ≡ 0 = ap (λ (l : List ℕ). length l) over in
    let all : length text ≡ length line = ap (λ (l : List ℕ). length l) is in
    let there = not_empty line some in
    omega (arith, none_left, all, there)
  where
    not_empty : (l : List ℕ) → (l ≡ [] → ⊥) → 0 < length l
    not_empty [] differ = absurd (differ refl)
    not_empty (b ∷ bs) differ = omega arith

module _ (known : Known) (setting : Setting) (file : List ℕ) (before : SinkState) where
  pub sets_out : (s : Simulation) → IsAt [] s → setting_in s ≡ setting → IsAnswered setting file before [] s before file 1
  sets_out s x same = record { written = []; wrote = known.nothing before; onward = λ cs rest zs are replies. (cs, are, replies); is_at = x; same = same }

  pub begins_at : (xs : List Step) (s : Simulation) (left : List ℕ) (line : ℕ) → xs ≡ [] → left ≡ file → line ≡ 1 → IsAt xs s → setting_in s ≡ setting → IsAnswered setting file before xs s before left line
  begins_at xs s left line start all first x same =
      subst (λ (l : List Step). IsAnswered setting file before l s before left line) (sym start)
      (subst (λ (l : List ℕ). IsAnswered setting file before [] s before l line) (sym all)
      (subst (λ (n : ℕ). IsAnswered setting file before [] s before file n) (sym first) (sets_out s (subst (λ (l : List Step). IsAt l s) start x) same)))

  module _ (xs : List Step) (s : Simulation) (mid : SinkState) (left : List ℕ) (line : ℕ) (way : IsAnswered setting file before xs s mid left line) where
    -- no command is left
    pub all_answered : {A : Type 0} (r : Result A Halt) (done : A) → r ≡ Ok done → left ≡ [] → WroteSession setting file before mid r
    all_answered r done is over = rw is
        (let x = way.onward [] [] xs (subst (λ (l : List ℕ). AreCommands l []) (sym over) texts.none) (none line xs) in record {
          text = way.written;
          is_text = record { are = x.0; are_commands = x.1; steps = xs; replies = subst (λ (l : List ℕ). RepliesAll setting 1 [] x.0 l xs) (append-nil way.written) x.2 };
          wrote = way.wrote;
        })

    module _ (c : Command) (rest : List ℕ) (begins : BeginsWithCommand left c rest) (ys : List Step) (t : Simulation) (now : SinkState) where
      -- one more was answered
      pub answered : {A : Type 0} (r : Result A Halt) (done : A) → r ≡ Ok done → Replied line c xs s ys t mid now r → IsAnswered setting file before ys t now rest (line + 1)
      answered {A} r done is y = go (subst (λ (q : Result A Halt). Replied line c xs s ys t mid now q) is y)
        where
          go : Replied line c xs s ys t mid now (let p : Result A Halt = Ok done in p) → IsAnswered setting file before ys t now rest (line + 1)
          go z = record {
            written = way.written ++ z.text;
            wrote = known.joins before mid now way.written z.text None way.wrote z.wrote;
            onward = λ cs text zs are replies.
                let next : suc line ≡ line + 1 = omega arith in
                let here : RepliesAll setting line xs (c ∷ cs) (z.text ++ text) zs =
                more line xs ys zs c cs z.text text
                (subst (λ (l : List Step). Replies setting line xs c z.text l) (sym z.steps) (subst (λ (u : Setting). Replies u line xs c z.text z.left) way.same z.replies))
                (subst (λ (k : ℕ). RepliesAll setting k ys cs text zs) (sym next) replies) in
                let x = way.onward (c ∷ cs) (z.text ++ text) zs (texts.more left rest c cs begins are) here in
                (x.0, x.1, subst (λ (l : List ℕ). RepliesAll setting 1 [] x.0 l zs) (sym (append_assoc way.written z.text text)) x.2);
            is_at = z.is_at;
            same = z.setting ∙ way.same;
          }

      -- or it halted
      pub halted : {A B : Type 0} (r : Result A Halt) (q : Result B Halt) (halt : Halt) → r ≡ Err halt → q ≡ Err halt → Replied line c xs s ys t mid now r → WroteSession setting file before now q
      halted {A} {B} r q halt is ends y = rw ends (go (subst (λ (p : Result A Halt). Replied line c xs s ys t mid now p) is y))
        where
          go : Replied line c xs s ys t mid now (let p : Result A Halt = Err halt in p) → WroteSession setting file before now (let p : Result B Halt = Err halt in p)
          go z =
              let here : Replies setting line xs c z.text z.left = subst (λ (u : Setting). Replies u line xs c z.text z.left) way.same z.replies in
              let sound : IsSound setting.model = subst (λ (u : Setting). IsSound u.model) way.same way.is_at.sound in
              let place : StandsAfter setting xs s = subst (λ (u : Setting). StandsAfter u xs s) way.same way.is_at.place.after in
              let to = reply_leads known setting sound line xs c z.text z.left s place here in
              let all = known.some_commands rest in
              let more_of = some_text known setting sound (suc line) all.0 z.left to.0 to.1 in
              let x = way.onward (c ∷ all.0) (z.text ++ more_of.text) more_of.steps (texts.more left rest c all.0 begins all.1) (more line xs z.left more_of.steps c all.0 z.text more_of.text here more_of.replies) in
              record {
                text = way.written ++ (z.text ++ more_of.text);
                is_text = record { are = x.0; are_commands = x.1; steps = more_of.steps; replies = x.2 };
                wrote = known.joins before mid now way.written (z.text ++ more_of.text) (Some halt) way.wrote (known.halts mid now z.text more_of.text halt z.wrote);
              }
