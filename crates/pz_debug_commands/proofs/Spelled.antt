-- The command that is read of a line is the one that it spells.
use Rattle.std.proofs.Common.{◌≡◌, refl, sym, ap, subst, ◌∙◌, ℕ, ◌≤◌, Bool, true, false, ◌&&◌, List, [], ◌∷◌, ◌++◌, length, Option, Some, None, arith}
use Rattle.std.specs.Prelude.{codes, bytes_eq, if◌then◌else◌}
use Rattle.std.specs.List.{slice_split, join_with_byte}
use Rattle.std.specs.Fmt.{decimal}
use Rattle.std.proofs.lemmas.Slice.Eq.{bytes_eq-Decides}
use Rattle.std.proofs.lemmas.List.Splits.{join_with_byte-slice_split, length-slice_split}
use Rattle.pz_words.specs.Numbers.{IsShort}
use Rattle.pz_words.specs.devices.Reading.{number_of}
use Rattle.pz_words.proofs.Outcomes.{both_true}
use Rattle.pz_words.proofs.Numerals.{is_number, found}
use Rattle.pz_debug_commands.specs.Lines.{Lacks}
use Rattle.pz_debug_commands.specs.Commands.{Command, menu, pick, pass, run, until, back, show, unknown, words_of, CanBeWritten, step_limit, IsWord, Spells, IsCommand, spelled, unspelled}
use Rattle.pz_debug_commands.specs.devices.Reading.{count_of, with_number, is_word, alone, with_one, with_two, named, command_in, read}
use Rattle.pz_debug_commands.proofs.Numerals.{number_lacks, counted, is_count}
use Rattle.pz_debug_commands.proofs.Words.{blank, EachLacks, split_one, split_more, split_joined, split_lacks, lacks_from, word_is, is_word_is}

-- What is read is spelled

-- the line spells it, if it is a command
abbrev pub Tells : List ℕ → Command → Type 0
Tells line unknown = Unit {0}
Tells line c = Spells line c

either : (P : Command → Type 0) (b : Bool) (x y : Command) → (b ≡ true → P x) → (b ≡ false → P y) → P (if b then x else y)
either P true x y met unmet = met refl
either P false x y met unmet = unmet refl

is_key : (word key : List ℕ) → bytes_eq word key ≡ true → word ≡ key
is_key word key = (bytes_eq-Decides word key).0

tells_alone : (w : List ℕ) → Tells w (alone w)
tells_alone w =
    either (Tells w) (bytes_eq w (codes "menu")) menu (if bytes_eq w (codes "pass") then pass else unknown)
    (λ e. record { written = tt; is_line = is_key w (codes "menu") e })
    (λ no. either (Tells w) (bytes_eq w (codes "pass")) pass unknown (λ e. record { written = tt; is_line = is_key w (codes "pass") e }) (λ other. tt))

-- a line of two words
abbrev two : List ℕ → List ℕ → List ℕ
two a b = a ++ (32 ∷ b)

two_are : (a b c d : List ℕ) → a ≡ c → b ≡ d → two a b ≡ two c d
two_are a b c d e f = ap (λ (x : List ℕ). two x b) e ∙ ap (λ (x : List ℕ). two c x) f

module _ (name word : List ℕ) where
  tells_pick : name ≡ codes "pick" → Tells (two name word) (with_number (λ k. pick k) (number_of word))
  tells_pick same = by (number_of word) refl
    where
      by : (o : Option ℕ) → number_of word ≡ o → Tells (two name word) (with_number (λ k. pick k) o)
      by None e = tt
      by (Some k) e = let is = is_number k word e in record { written = is.short; is_line = two_are name word (codes "pick") (decimal k) same is.digits }

  tells_run : name ≡ codes "run" → Tells (two name word) (with_number (λ k. run k) (count_of word))
  tells_run same = by (count_of word) refl
    where
      by : (o : Option ℕ) → count_of word ≡ o → Tells (two name word) (with_number (λ k. run k) o)
      by None e = tt
      by (Some k) e = let is = is_count word k e in record { written = is.1; is_line = two_are name word (codes "run") (decimal k) same is.0 }

  tells_back : name ≡ codes "back" → Tells (two name word) (with_number (λ k. back k) (count_of word))
  tells_back same = by (count_of word) refl
    where
      by : (o : Option ℕ) → count_of word ≡ o → Tells (two name word) (with_number (λ k. back k) o)
      by None e = tt
      by (Some k) e = let is = is_count word k e in record { written = is.1; is_line = two_are name word (codes "back") (decimal k) same is.0 }

  tells_one : Tells (two name word) (with_one name word)
  tells_one =
      either (Tells (two name word)) (bytes_eq name (codes "pick")) _ _ (λ e. tells_pick (is_key name (codes "pick") e))
      (λ no. either (Tells (two name word)) (bytes_eq name (codes "run")) _ _ (λ e. tells_run (is_key name (codes "run") e))
      (λ nor. either (Tells (two name word)) (bytes_eq name (codes "back")) _ _ (λ e. tells_back (is_key name (codes "back") e)) (λ other. tt)))

module _ (name first second : List ℕ) (lacks : Lacks 32 first × Lacks 32 second) where
  abbrev line : List ℕ
  line = two name (two first second)

  tells_until : IsWord first → name ≡ codes "until" → Tells line (with_number (λ n. until first n) (count_of second))
  tells_until word same = by (count_of second) refl
    where
      by : (o : Option ℕ) → count_of second ≡ o → Tells line (with_number (λ n. until first n) o)
      by None e = tt
      by (Some n) e =
          let is = is_count second n e in
          record {
            written = (word, is.1);
            is_line = two_are name (two first second) (codes "until") (two first (decimal n)) same (two_are first second first (decimal n) refl is.0);
          }

  tells_show : IsWord first → (bytes_eq name (codes "show") && is_word second) ≡ true → Tells line (show first second)
  tells_show word e =
      let parts = both_true (bytes_eq name (codes "show")) (is_word second) e in
      record {
        written = (word, word_is second lacks.1 parts.1);
        is_line = two_are name (two first second) (codes "show") (two first second) (is_key name (codes "show") parts.0) refl;
      }

  tells_two : Tells line (with_two name first second)
  tells_two =
      either (Tells line) (is_word first) (named name first second) unknown
      (λ yes. let word = word_is first lacks.0 yes in
      either (Tells line) (bytes_eq name (codes "until")) _ _ (λ e. tells_until word (is_key name (codes "until") e))
      (λ no. either (Tells line) (bytes_eq name (codes "show") && is_word second) _ _ (λ e. tells_show word e) (λ other. tt)))
      (λ no. tt)

tells_in : (ws : List (List ℕ)) → EachLacks 32 ws → Tells (join_with_byte 32 ws) (command_in ws)
tells_in [] each = tt
tells_in (w ∷ []) each = tells_alone w
tells_in (w ∷ v ∷ []) each = tells_one w v
tells_in (w ∷ u ∷ v ∷ []) each = tells_two w u v (each.1.0, each.1.1.0)
tells_in (w ∷ u ∷ v ∷ x ∷ ws) each = tt

tells : (line : List ℕ) → Tells line (read line)
tells line =
    subst (λ (l : List ℕ). Tells l (read line)) (join_with_byte-slice_split 32 line) (tells_in (slice_split blank line) (split_lacks line))

-- What is spelled is read

joined : (w : List ℕ) (ws : List (List ℕ)) → EachLacks 32 (w ∷ ws) → read (join_with_byte 32 (w ∷ ws)) ≡ command_in (w ∷ ws)
joined w ws each = ap command_in (split_joined w ws each)

short : (n : ℕ) → n ≤ step_limit → IsShort n
short n few = omega arith

digits_lack : (n : ℕ) → IsShort n → Lacks 32 (decimal n)
digits_lack n is = number_lacks 32 n (omega arith) is

read_joined : (c : Command) → CanBeWritten c → read (join_with_byte 32 (words_of c)) ≡ c
read_joined menu is = refl
read_joined (pick k) is =
    joined (codes "pick") (decimal k ∷ []) (lacks_from 32 (codes "pick") refl, (digits_lack k is, tt))
    ∙ ap (λ (o : Option ℕ). with_number (λ k. pick k) o) (found k (decimal k) (record { digits = refl; short = is }))
read_joined pass is = refl
read_joined (run n) is =
    joined (codes "run") (decimal n ∷ []) (lacks_from 32 (codes "run") refl, (digits_lack n (short n is), tt))
    ∙ ap (λ (o : Option ℕ). with_number (λ k. run k) o) (counted n is)
read_joined (until message n) is =
    joined (codes "until") (message ∷ decimal n ∷ []) (lacks_from 32 (codes "until") refl, (is.0.joined, (digits_lack n (short n is.1), tt)))
    ∙ ap (λ (b : Bool). if b then named (codes "until") message (decimal n) else unknown) (is_word_is message is.0)
    ∙ ap (λ (o : Option ℕ). with_number (λ k. until message k) o) (counted n is.1)
read_joined (back n) is =
    joined (codes "back") (decimal n ∷ []) (lacks_from 32 (codes "back") refl, (digits_lack n (short n is), tt))
    ∙ ap (λ (o : Option ℕ). with_number (λ k. back k) o) (counted n is)
read_joined (show path name) is =
    joined (codes "show") (path ∷ name ∷ []) (lacks_from 32 (codes "show") refl, (is.0.joined, (is.1.joined, tt)))
    ∙ ap (λ (b : Bool). if b then named (codes "show") path name else unknown) (is_word_is path is.0)
    ∙ ap (λ (b : Bool). if b then show path name else unknown) (is_word_is name is.1)
read_joined unknown is = absurd is

pub read_spelled : (line : List ℕ) (c : Command) → Spells line c → read line ≡ c
read_spelled line c s = ap read s.is_line ∙ read_joined c s.written

-- So it is the command of the line

pub is_command : (line : List ℕ) → IsCommand line (read line)
is_command line = by (read line) refl (tells line)
  where
    none : read line ≡ unknown → (c : Command) → Spells line c → ⊥
    none e c s = subst CanBeWritten (sym (read_spelled line c s) ∙ e) s.written

    by : (c : Command) → read line ≡ c → Tells line c → IsCommand line c
    by menu e told = spelled menu told
    by (pick k) e told = spelled (pick k) told
    by pass e told = spelled pass told
    by (run n) e told = spelled (run n) told
    by (until message n) e told = spelled (until message n) told
    by (back n) e told = spelled (back n) told
    by (show path name) e told = spelled (show path name) told
    by unknown e told = unspelled (none e)

pub command_is : (line : List ℕ) (c : Command) → IsCommand line c → c ≡ read line
command_is line _ (spelled c s) = sym (read_spelled line c s)
command_is line _ (unspelled none) = by (read line) (tells line)
  where
    by : (c : Command) → Tells line c → unknown ≡ c
    by menu told = absurd (none menu told)
    by (pick k) told = absurd (none (pick k) told)
    by pass told = absurd (none pass told)
    by (run n) told = absurd (none (run n) told)
    by (until message n) told = absurd (none (until message n) told)
    by (back n) told = absurd (none (back n) told)
    by (show path name) told = absurd (none (show path name) told)
    by unknown told = refl

pub one_command : (line : List ℕ) (c d : Command) → IsCommand line c → IsCommand line d → c ≡ d
one_command line c d is are = command_is line c is ∙ sym (command_is line d are)

-- As the code reads it

commanded : (line : List ℕ) (c : Command) (ws : List (List ℕ)) → slice_split blank line ≡ ws → c ≡ command_in ws → IsCommand line c
commanded line c ws cut is = subst (IsCommand line) (ap command_in cut ∙ sym is) (is_command line)

pub alone_read : (line : List ℕ) (c : Command) → Lacks 32 line → c ≡ alone line → IsCommand line c
alone_read line c lacks is = commanded line c (line ∷ []) (split_one line lacks) is

module _ (line a r : List ℕ) (lacks : Lacks 32 a) (parts : line ≡ a ++ (32 ∷ r)) where
  cut_more : slice_split blank line ≡ a ∷ slice_split blank r
  cut_more = ap (slice_split blank) parts ∙ split_more a r lacks

  pub one_read : (c : Command) → Lacks 32 r → c ≡ with_one a r → IsCommand line c
  one_read c other is = commanded line c (a ∷ r ∷ []) (cut_more ∙ ap (λ (ws : List (List ℕ)). a ∷ ws) (split_one r other)) is

  module _ (b s : List ℕ) (more_lacks : Lacks 32 b) (more_parts : r ≡ b ++ (32 ∷ s)) where
    cut_twice : slice_split blank line ≡ a ∷ b ∷ slice_split blank s
    cut_twice = cut_more ∙ ap (λ (ws : List (List ℕ)). a ∷ ws) (ap (slice_split blank) more_parts ∙ split_more b s more_lacks)

    pub two_read : (c : Command) → Lacks 32 s → c ≡ with_two a b s → IsCommand line c
    two_read c other is = commanded line c (a ∷ b ∷ s ∷ []) (cut_twice ∙ ap (λ (ws : List (List ℕ)). a ∷ b ∷ ws) (split_one s other)) is

    pub more_read : (c : Command) (t u : List ℕ) → Lacks 32 t → s ≡ t ++ (32 ∷ u) → c ≡ unknown → IsCommand line c
    more_read c t u other same is =
        commanded line c (a ∷ b ∷ t ∷ slice_split blank u)
        (cut_twice ∙ ap (λ (ws : List (List ℕ)). a ∷ b ∷ ws) (ap (slice_split blank) same ∙ split_more t u other))
        (is ∙ sym (too_many (slice_split blank u) (some_part u)))
      where
        too_many : (ws : List (List ℕ)) → (ws ≡ [] → ⊥) → command_in (a ∷ b ∷ t ∷ ws) ≡ unknown
        too_many [] some = absurd (some refl)
        too_many (w ∷ ws) some = refl

        some_part : (l : List ℕ) → slice_split blank l ≡ [] → ⊥
        some_part l e = omega (arith, length-slice_split blank l, ap length e)
