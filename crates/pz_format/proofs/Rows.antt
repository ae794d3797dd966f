-- Texts and their layouts, computed. Each layout, read again, is its own.
use Rattle.std.proofs.Common.{◌≡◌, ℕ, List, Result, Ok, Err, refl}
use Rattle.std.specs.Prelude.{codes}
use Rattle.std.specs.Fmt.{digits}
use Rattle.pz_lexer.specs.declared.kept.Piece.{Piece}
use Rattle.pz_lexer.specs.declared.error.LexError.{LexError}
use Rattle.pz_lexer.specs.devices.Twin.{pieced}
use Rattle.pz_format.specs.Layout.{layout}

abbrev laid_out : Result (List Piece) LexError → Result (List ℕ) LexError
laid_out (Ok pieces) = Ok (layout pieces)
laid_out (Err error) = Err error

abbrev formatted : List ℕ → Result (List ℕ) LexError
formatted text = laid_out (pieced text)

-- a model of one process
a_process : formatted (codes "process class P\ninit a()()\nmethods a()()\nskip;\ndelay 3;\nskip\nsystem instances p : P\n") ≡ Ok (codes "process class P init a()()\nmethods a()() skip;\ndelay 3;\nskip\nsystem\ninstances p : P\n")
unfolding digits
a_process = refl

a_process-again : formatted (codes "process class P init a()()\nmethods a()() skip;\ndelay 3;\nskip\nsystem\ninstances p : P\n") ≡ Ok (codes "process class P init a()()\nmethods a()() skip;\ndelay 3;\nskip\nsystem\ninstances p : P\n")
unfolding digits
a_process-again = refl

-- a comment that ends with its line
with_a_comment : formatted (codes "process class P // one\ninit a()() methods a()() skip system instances p : P\n") ≡ Ok (codes "process class P\n// one\ninit a()()\nmethods a()() skip\nsystem\ninstances p : P\n")
unfolding digits
with_a_comment = refl

with_a_comment-again : formatted (codes "process class P\n// one\ninit a()()\nmethods a()() skip\nsystem\ninstances p : P\n") ≡ Ok (codes "process class P\n// one\ninit a()()\nmethods a()() skip\nsystem\ninstances p : P\n")
unfolding digits
with_a_comment-again = refl

-- a text without tokens
nothing : formatted (codes " \n\t") ≡ Ok (codes "")
unfolding digits
nothing = refl

nothing-again : formatted (codes "") ≡ Ok (codes "")
unfolding digits
nothing-again = refl

-- comments alone, and blanks at the end of one
comments_alone : formatted (codes "/* a */ // b \t\r\n") ≡ Ok (codes "/* a */\n// b\n")
unfolding digits
comments_alone = refl

comments_alone-again : formatted (codes "/* a */\n// b\n") ≡ Ok (codes "/* a */\n// b\n")
unfolding digits
comments_alone-again = refl

-- comments between all tokens
comments_in_gaps : formatted (codes "a/*1*/:=/*2*/b//3\n!c") ≡ Ok (codes "a\n/*1*/\n:=\n/*2*/\nb\n//3\n!c\n")
unfolding digits
comments_in_gaps = refl

comments_in_gaps-again : formatted (codes "a\n/*1*/\n:=\n/*2*/\nb\n//3\n!c\n") ≡ Ok (codes "a\n/*1*/\n:=\n/*2*/\nb\n//3\n!c\n")
unfolding digits
comments_in_gaps-again = refl

-- a comment of lines keeps its bytes
block_of_lines : formatted (codes "skip /* a\r\n  b */;") ≡ Ok (codes "skip\n/* a\r\n  b */\n;\n")
unfolding digits
block_of_lines = refl

block_of_lines-again : formatted (codes "skip\n/* a\r\n  b */\n;\n") ≡ Ok (codes "skip\n/* a\r\n  b */\n;\n")
unfolding digits
block_of_lines-again = refl

-- a head stays one where a comment parts it
head_past_comment : formatted (codes "p /* c */ : P") ≡ Ok (codes "p\n/* c */\n: P\n")
unfolding digits
head_past_comment = refl

head_past_comment-again : formatted (codes "p\n/* c */\n: P\n") ≡ Ok (codes "p\n/* c */\n: P\n")
unfolding digits
head_past_comment-again = refl

-- ports and messages
messages : formatted (codes "p ! m ( x , y ) ; q ? n ( z | z > 0 )") ≡ Ok (codes "p!m(x, y);\nq?n(z | z > 0)\n")
unfolding digits
messages = refl

messages-again : formatted (codes "p!m(x, y);\nq?n(z | z > 0)\n") ≡ Ok (codes "p!m(x, y);\nq?n(z | z > 0)\n")
unfolding digits
messages-again = refl

-- signs and operators
signs : formatted (codes "x := - 1 ; y := ! b ; z := a - - b") ≡ Ok (codes "x := - 1;\ny := !b;\nz := a - - b\n")
unfolding digits
signs = refl

signs-again : formatted (codes "x := - 1;\ny := !b;\nz := a - - b\n") ≡ Ok (codes "x := - 1;\ny := !b;\nz := a - - b\n")
unfolding digits
signs-again = refl

-- an operator begins with what stands alone
equalities : formatted (codes "a != b ; a !== b ; a == b ; a <= b") ≡ Ok (codes "a != b;\na !== b;\na == b;\na <= b\n")
unfolding digits
equalities = refl

equalities-again : formatted (codes "a != b;\na !== b;\na == b;\na <= b\n") ≡ Ok (codes "a != b;\na !== b;\na == b;\na <= b\n")
unfolding digits
equalities-again = refl

-- selectors, `init` and `new`
selectors : formatted (codes "a size init ( ) ; new ( Array ) resize ( 2 ) put ( 1 , - 2 )") ≡ Ok (codes "a size init();\nnew(Array) resize(2) put(1, - 2)\n")
unfolding digits
selectors = refl

selectors-again : formatted (codes "a size init();\nnew(Array) resize(2) put(1, - 2)\n") ≡ Ok (codes "a size init();\nnew(Array) resize(2) put(1, - 2)\n")
unfolding digits
selectors-again = refl

-- a call of a method, which is a head
call : formatted (codes "m ( 1 + 2 ) ( x ) ; n ( ) ( )") ≡ Ok (codes "m(1 + 2)(x);\nn()()\n")
unfolding digits
call = refl

call-again : formatted (codes "m(1 + 2)(x);\nn()()\n") ≡ Ok (codes "m(1 + 2)(x);\nn()()\n")
unfolding digits
call-again = refl

-- literals
literals : formatted (codes "'a' \"b\\x0A\\\"\" '\\'' '\\n' 007 true nil") ≡ Ok (codes "'a' \"b\\x0a\\\"\" '\\'' '\\x0a' 7 true nil\n")
unfolding digits
literals = refl

literals-again : formatted (codes "'a' \"b\\x0a\\\"\" '\\'' '\\x0a' 7 true nil\n") ≡ Ok (codes "'a' \"b\\x0a\\\"\" '\\'' '\\x0a' 7 true nil\n")
unfolding digits
literals-again = refl

-- statements in statements
statements : formatted (codes "par a ( ) ( ) and sel skip or delay 1 les rap ; if b then skip else while c do skip od fi") ≡ Ok (codes "par a()()\nand sel skip\n  or delay 1\n  les\nrap;\nif b then skip\nelse while c do skip\n  od\nfi\n")
unfolding digits
statements = refl

statements-again : formatted (codes "par a()()\nand sel skip\n  or delay 1\n  les\nrap;\nif b then skip\nelse while c do skip\n  od\nfi\n") ≡ Ok (codes "par a()()\nand sel skip\n  or delay 1\n  les\nrap;\nif b then skip\nelse while c do skip\n  od\nfi\n")
unfolding digits
statements-again = refl

-- a part behind `with`
abort : formatted (codes "abort ( skip ; skip ) with skip") ≡ Ok (codes "abort (skip;\n  skip)\nwith skip\n")
unfolding digits
abort = refl

abort-again : formatted (codes "abort (skip;\n  skip)\nwith skip\n") ≡ Ok (codes "abort (skip;\n  skip)\nwith skip\n")
unfolding digits
abort-again = refl

-- guards and blocks
guard : formatted (codes "[ x > 0 ] skip ; p ! m { x := 1 ; y := 2 }") ≡ Ok (codes "[x > 0] skip;\np!m {x := 1;\n  y := 2}\n")
unfolding digits
guard = refl

guard-again : formatted (codes "[x > 0] skip;\np!m {x := 1;\n  y := 2}\n") ≡ Ok (codes "[x > 0] skip;\np!m {x := 1;\n  y := 2}\n")
unfolding digits
guard-again = refl

-- channels
channels : formatted (codes "channels { a . p , b . q } { r , a . s }") ≡ Ok (codes "channels {a.p, b.q} {r, a.s}\n")
unfolding digits
channels = refl

channels-again : formatted (codes "channels {a.p, b.q} {r, a.s}\n") ≡ Ok (codes "channels {a.p, b.q} {r, a.s}\n")
unfolding digits
channels-again = refl

-- lines that end with a CR too
carriage_returns : formatted (codes "process class P\r\nports a,b\r\n") ≡ Ok (codes "process class P\nports a, b\n")
unfolding digits
carriage_returns = refl

carriage_returns-again : formatted (codes "process class P\nports a, b\n") ≡ Ok (codes "process class P\nports a, b\n")
unfolding digits
carriage_returns-again = refl

-- what is closed and was not opened
closed_first : formatted (codes "od ; fi ; skip") ≡ Ok (codes "od;\nfi;\nskip\n")
unfolding digits
closed_first = refl

closed_first-again : formatted (codes "od;\nfi;\nskip\n") ≡ Ok (codes "od;\nfi;\nskip\n")
unfolding digits
closed_first-again = refl

-- deeper than twenty, a line begins with 40 blanks
at_most_forty : formatted (codes "(((((((((((((((((((((x;y)))))))))))))))))))))") ≡ Ok (codes "(((((((((((((((((((((x;\n                                        y)))))))))))))))))))))\n")
unfolding digits
at_most_forty = refl

at_most_forty-again : formatted (codes "(((((((((((((((((((((x;\n                                        y)))))))))))))))))))))\n") ≡ Ok (codes "(((((((((((((((((((((x;\n                                        y)))))))))))))))))))))\n")
unfolding digits
at_most_forty-again = refl

-- and with 40 at twenty
twenty : formatted (codes "((((((((((((((((((((x;y))))))))))))))))))))") ≡ Ok (codes "((((((((((((((((((((x;\n                                        y))))))))))))))))))))\n")
unfolding digits
twenty = refl

twenty-again : formatted (codes "((((((((((((((((((((x;\n                                        y))))))))))))))))))))\n") ≡ Ok (codes "((((((((((((((((((((x;\n                                        y))))))))))))))))))))\n")
unfolding digits
twenty-again = refl

-- with 38 at nineteen
nineteen : formatted (codes "(((((((((((((((((((x;y)))))))))))))))))))") ≡ Ok (codes "(((((((((((((((((((x;\n                                      y)))))))))))))))))))\n")
unfolding digits
nineteen = refl

nineteen-again : formatted (codes "(((((((((((((((((((x;\n                                      y)))))))))))))))))))\n") ≡ Ok (codes "(((((((((((((((((((x;\n                                      y)))))))))))))))))))\n")
unfolding digits
nineteen-again = refl
