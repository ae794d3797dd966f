-- In the text of a model no two neighbours merge.
use Rattle.std.proofs.Common.{◌≡◌, ℕ, ◌≤◌, List, [], ◌∷◌, ◌++◌, map, Bool, true, false, Option, Some, None, refl, ◌∙◌, ap, subst, arith}
use Rattle.std.specs.Prelude.{if◌then◌else◌, unwrap_or, is_some, bytes_eq, codes}
use Rattle.std.proofs.lemmas.Bool.{false≢true}
use Rattle.pz_syntax.specs.declared.tokens.Keyword.{Keyword}
use Rattle.pz_syntax.specs.declared.tokens.Keyword.TheVariants as k
use Rattle.pz_syntax.specs.declared.tokens.Symbol.{Symbol}
use Rattle.pz_syntax.specs.declared.tokens.Symbol.TheVariants as s
use Rattle.pz_syntax.specs.declared.tokens.TokenKind.{TokenKind}
use Rattle.pz_syntax.specs.declared.tokens.TokenKind.TheVariants as kind
use Rattle.pz_syntax.specs.declared.tokens.Mark.{Mark}
use Rattle.pz_syntax.specs.declared.names.Id.{Id}
use Rattle.pz_syntax.specs.declared.exprs.Literal.{Literal}
use Rattle.pz_syntax.specs.declared.exprs.Literal.TheVariants as lit
use Rattle.pz_syntax.specs.declared.classes.VarGroup.{VarGroup}
use Rattle.pz_syntax.specs.declared.classes.Message.{Message}
use Rattle.pz_syntax.specs.declared.clusters.Arg.{Arg}
use Rattle.pz_syntax.specs.declared.clusters.Arg.TheVariants.{Plain, Negated, Parameter}
use Rattle.pz_syntax.specs.declared.clusters.Given.{Given}
use Rattle.pz_syntax.specs.declared.clusters.Instance.{Instance}
use Rattle.pz_syntax.specs.declared.clusters.ChannelEnd.{ChannelEnd}
use Rattle.pz_syntax.specs.declared.clusters.ChannelEnd.TheVariants.{Inner, Outer}
use Rattle.pz_syntax.specs.declared.clusters.Channel.{Channel}
use Rattle.pz_syntax.specs.Marks.{mark, symbol, word, selector_kind, separated, tail_separated, each_text, optional, section, word_text, names_text}
use Rattle.pz_syntax.specs.Expressions.{Expression, literal, variable, me, clock, creation, group, chain, sends, unary, assign, returned, choice, loop, Expressions, none, more, Part, left_out, written, Links, no_links, link, Sendings, no_sendings, sending}
use Rattle.pz_syntax.specs.ExpressionText as et
use Rattle.pz_syntax.specs.ExpressionForm as ef
use Rattle.pz_syntax.specs.ExpressionForm.{operator_level}
use Rattle.pz_syntax.specs.Statements.{Statement, skip, delay, bracketed, block, guarded, parallel, select, conditional, repeated, abort, interrupt, send, receive, call, assignment, value, Statements, no_statements, then, StatementPart, not_written, otherwise, Branches, no_branches, branch}
use Rattle.pz_syntax.specs.StatementText as st
use Rattle.pz_syntax.specs.StatementForm as sf
use Rattle.pz_syntax.specs.Classes.{DataMethodTree, DataClassTree, StartTree, ProcessMethodTree, ProcessClassTree, DeclTree, data_class, process_class, cluster_class, system, ModelTree}
use Rattle.pz_syntax.specs.ClassText as ct
use Rattle.pz_syntax.specs.ModelText as mt
use Rattle.pz_syntax.specs.ModelForm as mf
use Rattle.pz_syntax.specs.ModelForm.{Each, IfWritten}
use Rattle.pz_lexer.specs.declared.kept.Piece.{Piece as Kept}
use Rattle.pz_lexer.specs.Kept.{tokens_among}
use Rattle.pz_format.specs.ReadingBack.{merge, StandApartBehind, StandApart}

-- what a list of marks may not go on with: behind `!`, behind `.`, or neither
data State : Type 0 where
  cold : State
  bang : State
  dot : State

abbrev after : TokenKind → State
after (kind.Sym s.Bang) = bang
after (kind.Sym s.Dot) = dot
after _ = cold

abbrev allowed : State → TokenKind → Bool
allowed bang (kind.Sym s.Equal) = false
allowed bang (kind.Sym s.Same) = false
allowed dot (kind.Int number) = false
allowed dot kind.Float = false
allowed _ _ = true

abbrev run : State → List Mark → Option State
run state [] = Some state
run state (m ∷ ms) = if allowed state m.kind then run (after m.kind) ms else None

record Good (ms : List Mark) : Type 0 where
  runs : run cold ms ≡ Some cold

record Either (ms : List Mark) : Type 0 where
  from_cold : run cold ms ≡ Some cold
  from_bang : run bang ms ≡ Some cold

follow : (state next : State) (a b : List Mark) → run state a ≡ Some next → run state (a ++ b) ≡ run next b
follow state next [] b e = ap (λ o. run (unwrap_or o cold) b) e
follow state next (m ∷ a) b e = by (allowed state m.kind) e (follow (after m.kind) next a b)
  where
    by : (t : Bool) → (if t then run (after m.kind) a else None) ≡ Some next → (run (after m.kind) a ≡ Some next → run (after m.kind) (a ++ b) ≡ run next b) → (if t then run (after m.kind) (a ++ b) else None) ≡ run next b
    by true e others = others e
    by false e others = absurd (false≢true (ap is_some e))

nil : Good []
nil = record { runs = refl }

good : {ms : List Mark} → Either ms → Good ms
good is = record { runs = is.from_cold }

seq : {a b : List Mark} → Good a → Good b → Good (a ++ b)
seq {a} {b} first second = record { runs = follow cold cold a b first.runs ∙ second.runs }

seq_either : {a b : List Mark} → Either a → Good b → Either (a ++ b)
seq_either {a} {b} first second = record { from_cold = follow cold cold a b first.from_cold ∙ second.runs; from_bang = follow bang cold a b first.from_bang ∙ second.runs }

c : {m : Mark} {ms : List Mark} → after m.kind ≡ cold → Good ms → Good (m ∷ ms)
c {m} {ms} e is = record { runs = ap (λ state. run state ms) e ∙ is.runs }

ce : {m : Mark} {ms : List Mark} → after m.kind ≡ cold → allowed bang m.kind ≡ true → Good ms → Either (m ∷ ms)
ce {m} {ms} e may is = record {
  from_cold = ap (λ state. run state ms) e ∙ is.runs;
  from_bang = ap (λ (t : Bool). if t then run (after m.kind) ms else None) may ∙ ap (λ state. run state ms) e ∙ is.runs;
}

bang_word : (x : Id) {ms : List Mark} → Good ms → Good (symbol s.Bang ∷ word x ∷ ms)
bang_word x is = record { runs = is.runs }

dot_word : (x : Id) {ms : List Mark} → Good ms → Good (symbol s.Dot ∷ word x ∷ ms)
dot_word x is = record { runs = is.runs }

literal_good : (x : Literal) → Either (mark (et.literal_kind x) ∷ [])
literal_good (lit.Int n) = ce refl refl nil
literal_good lit.Float = ce refl refl nil
literal_good (lit.Char byte) = ce refl refl nil
literal_good (lit.Str bytes) = ce refl refl nil
literal_good lit.True = ce refl refl nil
literal_good lit.False = ce refl refl nil
literal_good lit.Nil = ce refl refl nil

sign_good : (op : Symbol) (ms : List Mark) → ef.IsSign op → Either ms → Either (symbol op ∷ ms)
sign_good s.LeftParen ms sign is = absurd sign
sign_good s.RightParen ms sign is = absurd sign
sign_good s.LeftBrace ms sign is = absurd sign
sign_good s.RightBrace ms sign is = absurd sign
sign_good s.LeftBracket ms sign is = absurd sign
sign_good s.RightBracket ms sign is = absurd sign
sign_good s.Comma ms sign is = absurd sign
sign_good s.Semicolon ms sign is = absurd sign
sign_good s.Colon ms sign is = absurd sign
sign_good s.Assign ms sign is = absurd sign
sign_good s.Bang ms sign is = record { from_cold = is.from_bang; from_bang = is.from_bang }
sign_good s.Query ms sign is = absurd sign
sign_good s.Bar ms sign is = absurd sign
sign_good s.Dot ms sign is = absurd sign
sign_good s.Plus ms sign is = absurd sign
sign_good s.Minus ms sign is = ce refl refl (good is)
sign_good s.Star ms sign is = absurd sign
sign_good s.Slash ms sign is = absurd sign
sign_good s.Equal ms sign is = absurd sign
sign_good s.Same ms sign is = absurd sign
sign_good s.Unequal ms sign is = absurd sign
sign_good s.Distinct ms sign is = absurd sign
sign_good s.Less ms sign is = absurd sign
sign_good s.LessEqual ms sign is = absurd sign
sign_good s.Greater ms sign is = absurd sign
sign_good s.GreaterEqual ms sign is = absurd sign
sign_good s.Ampersand ms sign is = absurd sign

operator_cold : (op : Symbol) (n : ℕ) → operator_level op ≡ n → 1 ≤ n → after (kind.Sym op) ≡ cold
operator_cold s.LeftParen n e some = refl
operator_cold s.RightParen n e some = refl
operator_cold s.LeftBrace n e some = refl
operator_cold s.RightBrace n e some = refl
operator_cold s.LeftBracket n e some = refl
operator_cold s.RightBracket n e some = refl
operator_cold s.Comma n e some = refl
operator_cold s.Semicolon n e some = refl
operator_cold s.Colon n e some = refl
operator_cold s.Assign n e some = refl
operator_cold s.Bang n e some = absurd (omega (arith, e, some))
operator_cold s.Query n e some = refl
operator_cold s.Bar n e some = refl
operator_cold s.Dot n e some = absurd (omega (arith, e, some))
operator_cold s.Plus n e some = refl
operator_cold s.Minus n e some = refl
operator_cold s.Star n e some = refl
operator_cold s.Slash n e some = refl
operator_cold s.Equal n e some = refl
operator_cold s.Same n e some = refl
operator_cold s.Unequal n e some = refl
operator_cold s.Distinct n e some = refl
operator_cold s.Less n e some = refl
operator_cold s.LessEqual n e some = refl
operator_cold s.Greater n e some = refl
operator_cold s.GreaterEqual n e some = refl
operator_cold s.Ampersand n e some = refl

selector_cold : (x : Id) → after (selector_kind x) ≡ cold
selector_cold x = by (bytes_eq x.name (codes "init"))
  where
    by : (t : Bool) → after (if t then kind.Key k.Init else kind.Ident x.name) ≡ cold
    by true = refl
    by false = refl

mutual
  expression_good : (t : Expression Id Id) → ef.IsExpression t → Either (et.text t)
  expression_good (literal pos x) is = literal_good x
  expression_good (variable pos x) is = ce refl refl nil
  expression_good (me pos) is = ce refl refl nil
  expression_good (clock pos) is = ce refl refl nil
  expression_good (creation pos class) is = ce refl refl (c refl (c refl (c refl nil)))
  expression_good (group pos ts) is = ce refl refl (seq (body_good s.Semicolon ts refl is) (c refl nil))
  expression_good (chain pos t no_links) is = absurd is
  expression_good (chain pos t (link op place u ls)) is = seq_either (expression_good t is.1) (links_good (operator_level op) (link op place u ls) is.0 is.3)
  expression_good (sends pos t no_sendings) is = absurd is
  expression_good (sends pos t (sending x args ss)) is = seq_either (expression_good t is.0) (sendings_good (sending x args ss) is.2)
  expression_good (unary pos op t) is = sign_good op (et.text t) is.0 (expression_good t is.1)
  expression_good (assign pos x t) is = ce refl refl (c refl (good (expression_good t is.0)))
  expression_good (returned pos t) is = ce refl refl (good (expression_good t is.0))
  expression_good (choice pos test body other) is = ce refl refl (seq (good (expression_good test is.0)) (c refl (seq (body_good s.Semicolon body refl is.2) (seq (part_good other is.3) (c refl nil)))))
  expression_good (loop pos test body) is = ce refl refl (seq (good (expression_good test is.0)) (c refl (seq (body_good s.Semicolon body refl is.2) (c refl nil))))

  expressions_good : (x : Symbol) (ts : Expressions Id Id) → after (kind.Sym x) ≡ cold → ef.AreExpressions ts → Good (et.texts x ts)
  expressions_good x none e are = nil
  expressions_good x (more t ts) e are = seq (good (expression_good t are.0)) (tail_good x ts e are.1)

  body_good : (x : Symbol) (ts : Expressions Id Id) → after (kind.Sym x) ≡ cold → ef.IsBody ts → Good (et.texts x ts)
  body_good x none e are = absurd are
  body_good x (more t ts) e are = seq (good (expression_good t are.0)) (tail_good x ts e are.1)

  tail_good : (x : Symbol) (ts : Expressions Id Id) → after (kind.Sym x) ≡ cold → ef.AreExpressions ts → Good (et.tail_texts x ts)
  tail_good x none e are = nil
  tail_good x (more t ts) e are = c e (seq (good (expression_good t are.0)) (tail_good x ts e are.1))

  part_good : (p : Part Id Id) → ef.IsOtherwise p → Good (et.otherwise_text p)
  part_good left_out is = nil
  part_good (written ts) is = c refl (body_good s.Semicolon ts refl is)

  links_good : (n : ℕ) (ls : Links Id Id) → 1 ≤ n → ef.AreLinks n ls → Good (et.links_text ls)
  links_good n no_links some are = nil
  links_good n (link op place t ls) some are = c (operator_cold op n are.0 some) (seq (good (expression_good t are.1)) (links_good n ls some are.3))

  sendings_good : (ss : Sendings Id Id) → ef.AreSendings ss → Good (et.sendings_text ss)
  sendings_good no_sendings are = nil
  sendings_good (sending x args ss) are = c (selector_cold x) (seq (arguments_good args are.0) (sendings_good ss are.1))

  arguments_good : (p : Part Id Id) → ef.AreArguments p → Good (et.arguments_text p)
  arguments_good left_out are = nil
  arguments_good (written ts) are = c refl (seq (expressions_good s.Comma ts refl are) (c refl nil))

-- Lists of things.

tail_separated_good : {A : Type 0} (text_of : A → List Mark) (x : Symbol) (items : List A) → ((a : A) → Good (text_of a)) → after (kind.Sym x) ≡ cold → Good (tail_separated text_of x items)
tail_separated_good text_of x [] each e = nil
tail_separated_good text_of x (a ∷ items) each e = c e (seq (each a) (tail_separated_good text_of x items each e))

separated_good : {A : Type 0} (text_of : A → List Mark) (x : Symbol) (items : List A) → ((a : A) → Good (text_of a)) → after (kind.Sym x) ≡ cold → Good (separated text_of x items)
separated_good text_of x [] each e = nil
separated_good text_of x (a ∷ items) each e = seq (each a) (tail_separated_good text_of x items each e)

each_good : {A : Type 0} (P : A → Type 0) (text_of : A → List Mark) (items : List A) → ((a : A) → P a → Good (text_of a)) → Each P items → Good (each_text text_of items)
each_good P text_of [] one are = nil
each_good P text_of (a ∷ items) one are = seq (one a are.0) (each_good P text_of items one are.1)

all_good : {A : Type 0} (text_of : A → List Mark) (items : List A) → ((a : A) → Good (text_of a)) → Good (each_text text_of items)
all_good text_of [] one = nil
all_good text_of (a ∷ items) one = seq (one a) (all_good text_of items one)

optional_good : {A : Type 0} (text_of : A → List Mark) (o : Option A) → ((a : A) → Good (text_of a)) → Good (optional text_of o)
optional_good text_of None one = nil
optional_good text_of (Some a) one = one a

section_good : {A : Type 0} (x : Keyword) (text_of : A → List Mark) (o : Option A) → ((a : A) → Good (text_of a)) → Good (section x text_of o)
section_good x text_of None one = nil
section_good x text_of (Some a) one = c refl (one a)

written_good : {A : Type 0} (P : A → Type 0) (x : Keyword) (text_of : A → List Mark) (o : Option A) → ((a : A) → P a → Good (text_of a)) → IfWritten P o → Good (section x text_of o)
written_good P x text_of None one is = nil
written_good P x text_of (Some a) one is = c refl (one a is)

word_good : (x : Id) → Good (word_text x)
word_good x = c refl nil

names_good : (xs : List Id) → Good (names_text xs)
names_good xs = separated_good word_text s.Comma xs word_good refl

-- Statements.

after_good : (p : Part Id Id) → sf.IsAfter p → Good (st.after_text p)
after_good left_out is = nil
after_good (written es) is = c refl (seq (expressions_good s.Semicolon es refl is) (c refl nil))

reception_good : (into : Option (List Id)) (condition : Option (Expression Id Id)) → sf.IsReception into condition → Good (st.reception_text into condition)
reception_good None condition is = nil
reception_good (Some into) None is = c refl (seq (seq (names_good into) nil) (c refl nil))
reception_good (Some into) (Some e) is = c refl (seq (seq (names_good into) (c refl (good (expression_good e is.0)))) (c refl nil))

mutual
  statement_good : (t : Statement Id Id Id) → sf.IsStatement t → Good (st.text t)
  statement_good (skip pos) is = c refl nil
  statement_good (delay pos e) is = c refl (good (expression_good e is.0))
  statement_good (bracketed pos ts) is = c refl (seq (statements_good ts is) (c refl nil))
  statement_good (block pos es) is = c refl (seq (expressions_good s.Semicolon es refl is) (c refl nil))
  statement_good (guarded pos e t) is = c refl (seq (good (expression_good e is.0.0)) (c refl (statement_good t is.1)))
  statement_good (parallel pos bs) is = c refl (seq (branches_good k.And bs is) (c refl nil))
  statement_good (select pos bs) is = c refl (seq (branches_good k.Or bs is) (c refl nil))
  statement_good (conditional pos e body other) is = c refl (seq (good (expression_good e is.0.0)) (c refl (seq (statements_good body is.1) (seq (otherwise_good other is.2) (c refl nil)))))
  statement_good (repeated pos e body) is = c refl (seq (good (expression_good e is.0.0)) (c refl (seq (statements_good body is.1) (c refl nil))))
  statement_good (abort pos ts t) is = c refl (seq (statements_good ts is.0) (c refl (statement_good t is.1)))
  statement_good (interrupt pos ts t) is = c refl (seq (statements_good ts is.0) (c refl (statement_good t is.1)))
  statement_good (send pos port message args after) is = c refl (bang_word message (seq (arguments_good args is.0) (after_good after is.1)))
  statement_good (receive pos port message into condition after) is = c refl (c refl (c refl (seq (reception_good into condition is.0) (after_good after is.1))))
  statement_good (call pos method args results) is = c refl (c refl (seq (expressions_good s.Comma args refl is) (c refl (c refl (seq (names_good results) (c refl nil))))))
  statement_good (assignment pos x e) is = c refl (c refl (good (expression_good e is.0)))
  statement_good (value pos e) is = good (expression_good e is.0.0)

  statements_good : (ts : Statements Id Id Id) → sf.AreStatements ts → Good (st.texts ts)
  statements_good no_statements are = absurd are
  statements_good ((then) t ts) are = seq (statement_good t are.0) (followed_good ts are.1)

  followed_good : (ts : Statements Id Id Id) → sf.FollowStatements ts → Good (st.tail_texts ts)
  followed_good no_statements are = nil
  followed_good ((then) t ts) are = c refl (seq (statement_good t are.0) (followed_good ts are.1))

  otherwise_good : (p : StatementPart Id Id Id) → sf.IsOtherwise p → Good (st.otherwise_text p)
  otherwise_good not_written is = nil
  otherwise_good (otherwise ts) is = c refl (statements_good ts is)

  branches_good : (x : Keyword) (bs : Branches Id Id Id) → sf.AreBranches bs → Good (st.branches_text x bs)
  branches_good x no_branches are = absurd are
  branches_good x (branch b bs) are = seq (statements_good b are.0) (more_branches_good x bs are.1)

  more_branches_good : (x : Keyword) (bs : Branches Id Id Id) → sf.FollowBranches bs → Good (st.tail_branches x bs)
  more_branches_good x no_branches are = nil
  more_branches_good x (branch b bs) are = c refl (seq (statements_good b are.0) (more_branches_good x bs are.1))

-- Classes.

group_names_good : (x : Id) (xs : List Id) → Good (ct.group_names_from x xs)
group_names_good x [] = c refl nil
group_names_good x (y ∷ ys) = c refl (c refl (group_names_good y ys))

group_names : (xs : List Id) → Good (ct.group_names xs)
group_names [] = nil
group_names (x ∷ xs) = group_names_good x xs

group_good : (g : VarGroup) → Good (ct.group_text g)
group_good g = seq (group_names g.names) (c refl (c refl nil))

variables_good : (groups : List VarGroup) → Good (ct.variables_text groups)
variables_good groups = separated_good ct.group_text s.Comma groups group_good refl

formal_good : (groups : List VarGroup) → Good (ct.formal_text groups)
formal_good groups = c refl (seq (variables_good groups) (c refl nil))

locals_good : (groups : List VarGroup) → Good (ct.locals_text groups)
locals_good groups = c refl (seq (variables_good groups) (c refl nil))

data_method_good : (m : DataMethodTree) → mf.IsDataMethod m → Good (ct.data_method_text m)
data_method_good m is =
    c (selector_cold m.name) (seq (optional_good ct.formal_text m.inputs formal_good) (c refl (c refl (seq (optional_good ct.locals_text m.locals locals_good) (body_good s.Semicolon m.body refl is.2)))))

data_class_good : (d : DataClassTree) → mf.IsDataClass d → Good (ct.data_class_text d)
data_class_good d is =
    c refl (c refl (c refl (seq (section_good k.Extends word_text d.parent word_good) (seq (section_good k.Variables ct.variables_text d.variables variables_good)
    (written_good (Each mf.IsDataMethod) k.Methods (each_text ct.data_method_text) d.methods (λ ms are. each_good mf.IsDataMethod ct.data_method_text ms data_method_good are) is.1)))))

types_good : (types : List Id) → Good (ct.types_text types)
types_good types = c refl (seq (names_good types) (c refl nil))

message_good : (m : Message) → Good (ct.message_text m)
message_good m = by m.out (optional_good ct.types_text m.types types_good)
  where
    by : (out : Bool) → Good (optional ct.types_text m.types) → Good (word m.port ∷ symbol (ct.direction out) ∷ word m.name ∷ optional ct.types_text m.types)
    by true is = c refl (bang_word m.name is)
    by false is = c refl (c refl (c refl is))

start_good : (start : StartTree) → mf.IsStart start → Good (ct.start_text start)
start_good start is = c refl (c refl (seq (expressions_good s.Comma start.args refl is) (c refl (c refl (c refl nil)))))

process_method_good : (m : ProcessMethodTree) → mf.IsProcessMethod m → Good (ct.process_method_text m)
process_method_good m is = c refl (seq (formal_good m.inputs) (seq (formal_good m.outputs) (seq (optional_good ct.locals_text m.locals locals_good) (statements_good m.body is.3))))

process_class_good : (d : ProcessClassTree) → mf.IsProcessClass d → Good (ct.process_class_text d)
process_class_good d is =
    c refl (c refl (c refl (seq (optional_good ct.formal_text d.parameters formal_good) (seq (section_good k.Extends word_text d.parent word_good) (seq (section_good k.Ports names_text d.ports names_good)
    (seq (section_good k.Messages ct.messages_text d.messages (λ ms. separated_good ct.message_text s.Comma ms message_good refl)) (seq (section_good k.Variables ct.variables_text d.variables variables_good)
    (seq (written_good mf.IsStart k.Init ct.start_text d.start start_good is.2)
    (written_good (Each mf.IsProcessMethod) k.Methods (each_text ct.process_method_text) d.methods (λ ms are. each_good mf.IsProcessMethod ct.process_method_text ms process_method_good are) is.3)))))))))

-- Clusters and systems.

arg_good : (a : Arg) → Good (mt.arg_text a)
arg_good (Plain x pos) = good (literal_good x)
arg_good (Negated n pos) = c refl (c refl nil)
arg_good (Parameter x) = c refl nil

given_good : (g : Given) → Good (mt.given_text g)
given_good g = c refl (c refl (arg_good g.arg))

givens_good : (gs : List Given) → Good (mt.givens_text gs)
givens_good gs = c refl (seq (separated_good mt.given_text s.Comma gs given_good refl) (c refl nil))

instance_good : (i : Instance) → Good (mt.instance_text i)
instance_good i = c refl (c refl (c refl (optional_good mt.givens_text i.given givens_good)))

end_good : (e : ChannelEnd) → Good (mt.end_text e)
end_good (Inner part port) = c refl (dot_word port nil)
end_good (Outer port) = c refl nil

channel_good : (ch : Channel) → Good (mt.channel_text ch)
channel_good ch = c refl (seq (separated_good mt.end_text s.Comma ch.ends end_good refl) (c refl nil))

instances_good : (o : Option (List Instance)) → Good (section k.Instances (each_text mt.instance_text) o)
instances_good o = section_good k.Instances (each_text mt.instance_text) o (λ is. all_good mt.instance_text is instance_good)

channels_good : (o : Option (List Channel)) → Good (section k.Channels (each_text mt.channel_text) o)
channels_good o = section_good k.Channels (each_text mt.channel_text) o (λ cs. all_good mt.channel_text cs channel_good)

decl_good : (d : DeclTree) → mf.IsDecl d → Good (mt.decl_text d)
decl_good (data_class d) is = data_class_good d is
decl_good (process_class d) is = process_class_good d is
decl_good (cluster_class d) is =
    c refl (c refl (c refl (seq (optional_good ct.formal_text d.parameters formal_good) (seq (section_good k.Ports names_text d.ports names_good) (seq (instances_good d.instances) (channels_good d.channels))))))
decl_good (system d) is = c refl (seq (instances_good d.instances) (channels_good d.channels))

-- Pieces.

bang_merge : (y : Symbol) → allowed bang (kind.Sym y) ≡ true → merge (kind.Sym s.Bang) (kind.Sym y) ≡ false
bang_merge s.LeftParen e = refl
bang_merge s.RightParen e = refl
bang_merge s.LeftBrace e = refl
bang_merge s.RightBrace e = refl
bang_merge s.LeftBracket e = refl
bang_merge s.RightBracket e = refl
bang_merge s.Comma e = refl
bang_merge s.Semicolon e = refl
bang_merge s.Colon e = refl
bang_merge s.Assign e = refl
bang_merge s.Bang e = refl
bang_merge s.Query e = refl
bang_merge s.Bar e = refl
bang_merge s.Dot e = refl
bang_merge s.Plus e = refl
bang_merge s.Minus e = refl
bang_merge s.Star e = refl
bang_merge s.Slash e = refl
bang_merge s.Equal e = absurd (false≢true e)
bang_merge s.Same e = absurd (false≢true e)
bang_merge s.Unequal e = refl
bang_merge s.Distinct e = refl
bang_merge s.Less e = refl
bang_merge s.LessEqual e = refl
bang_merge s.Greater e = refl
bang_merge s.GreaterEqual e = refl
bang_merge s.Ampersand e = refl

symbol_merge : (x : Symbol) (y : TokenKind) → allowed (after (kind.Sym x)) y ≡ true → merge (kind.Sym x) y ≡ false
symbol_merge s.LeftParen y e = refl
symbol_merge s.RightParen y e = refl
symbol_merge s.LeftBrace y e = refl
symbol_merge s.RightBrace y e = refl
symbol_merge s.LeftBracket y e = refl
symbol_merge s.RightBracket y e = refl
symbol_merge s.Comma y e = refl
symbol_merge s.Semicolon y e = refl
symbol_merge s.Colon y e = refl
symbol_merge s.Assign y e = refl
symbol_merge s.Bang (kind.Ident name) e = refl
symbol_merge s.Bang (kind.Key word_of) e = refl
symbol_merge s.Bang (kind.Int number) e = refl
symbol_merge s.Bang kind.Float e = refl
symbol_merge s.Bang (kind.Char number) e = refl
symbol_merge s.Bang (kind.Str values) e = refl
symbol_merge s.Bang (kind.Sym y) e = bang_merge y e
symbol_merge s.Query y e = refl
symbol_merge s.Bar y e = refl
symbol_merge s.Dot (kind.Ident name) e = refl
symbol_merge s.Dot (kind.Key word_of) e = refl
symbol_merge s.Dot (kind.Int number) e = absurd (false≢true e)
symbol_merge s.Dot kind.Float e = absurd (false≢true e)
symbol_merge s.Dot (kind.Char number) e = refl
symbol_merge s.Dot (kind.Str values) e = refl
symbol_merge s.Dot (kind.Sym y) e = refl
symbol_merge s.Plus y e = refl
symbol_merge s.Minus y e = refl
symbol_merge s.Star y e = refl
symbol_merge s.Slash y e = refl
symbol_merge s.Equal y e = refl
symbol_merge s.Same y e = refl
symbol_merge s.Unequal y e = refl
symbol_merge s.Distinct y e = refl
symbol_merge s.Less y e = refl
symbol_merge s.LessEqual y e = refl
symbol_merge s.Greater y e = refl
symbol_merge s.GreaterEqual y e = refl
symbol_merge s.Ampersand y e = refl

no_merge : (x y : TokenKind) → allowed (after x) y ≡ true → merge x y ≡ false
no_merge (kind.Ident name) y e = refl
no_merge (kind.Key x) y e = refl
no_merge (kind.Int number) y e = refl
no_merge kind.Float y e = refl
no_merge (kind.Char number) y e = refl
no_merge (kind.Str values) y e = refl
no_merge (kind.Sym x) y e = symbol_merge x y e

-- the state is that behind the last piece, if that is a token
abbrev Behind : Kept → State → Type 0
Behind (Kept.Token t) state = state ≡ after t.mark.kind
Behind (Kept.Line text) state = Unit {0}
Behind (Kept.Block text) state = Unit {0}

abbrev marks_among : List Kept → List Mark
marks_among xs = map (λ t. t.mark) (tokens_among xs)

passes : (state last : State) (m : Mark) (ms : List Mark) → run state (m ∷ ms) ≡ Some last → (allowed state m.kind ≡ true) × (run (after m.kind) ms ≡ Some last)
passes state last m ms e = by (allowed state m.kind) refl e
  where
    by : (t : Bool) → allowed state m.kind ≡ t → (if t then run (after m.kind) ms else None) ≡ Some last → (allowed state m.kind ≡ true) × (run (after m.kind) ms ≡ Some last)
    by true is e = (is, e)
    by false is e = absurd (false≢true (ap is_some e))

apart_behind : (p : Kept) (state last : State) (xs : List Kept) → Behind p state → run state (marks_among xs) ≡ Some last → StandApartBehind p xs
apart_behind p state last [] is e = tt
apart_behind (Kept.Token t) state last (Kept.Token u ∷ xs) is e =
    let next = passes state last u.mark (marks_among xs) e in
    (no_merge t.mark.kind u.mark.kind (subst (λ st. allowed st u.mark.kind ≡ true) is next.0), apart_behind (Kept.Token u) (after u.mark.kind) last xs refl next.1)
apart_behind (Kept.Line text) state last (Kept.Token u ∷ xs) is e =
    (refl, apart_behind (Kept.Token u) (after u.mark.kind) last xs refl (passes state last u.mark (marks_among xs) e).1)
apart_behind (Kept.Block text) state last (Kept.Token u ∷ xs) is e =
    (refl, apart_behind (Kept.Token u) (after u.mark.kind) last xs refl (passes state last u.mark (marks_among xs) e).1)
apart_behind (Kept.Token t) state last (Kept.Line text ∷ xs) is e = (refl, apart_behind (Kept.Line text) state last xs tt e)
apart_behind (Kept.Line before) state last (Kept.Line text ∷ xs) is e = (refl, apart_behind (Kept.Line text) state last xs tt e)
apart_behind (Kept.Block before) state last (Kept.Line text ∷ xs) is e = (refl, apart_behind (Kept.Line text) state last xs tt e)
apart_behind (Kept.Token t) state last (Kept.Block text ∷ xs) is e = (refl, apart_behind (Kept.Block text) state last xs tt e)
apart_behind (Kept.Line before) state last (Kept.Block text ∷ xs) is e = (refl, apart_behind (Kept.Block text) state last xs tt e)
apart_behind (Kept.Block before) state last (Kept.Block text ∷ xs) is e = (refl, apart_behind (Kept.Block text) state last xs tt e)

apart : (last : State) (xs : List Kept) → run cold (marks_among xs) ≡ Some last → StandApart xs
apart last [] e = tt
apart last (Kept.Token t ∷ xs) e = apart_behind (Kept.Token t) (after t.mark.kind) last xs refl (passes cold last t.mark (marks_among xs) e).1
apart last (Kept.Line text ∷ xs) e = apart_behind (Kept.Line text) cold last xs tt e
apart last (Kept.Block text ∷ xs) e = apart_behind (Kept.Block text) cold last xs tt e

pub model_apart : (model : ModelTree) (xs : List Kept) → mf.IsModel model → marks_among xs ≡ mt.text model → StandApart xs
model_apart model xs is same = apart cold xs (ap (run cold) same ∙ (each_good mf.IsDecl mt.decl_text model.decls decl_good is.1).runs)
