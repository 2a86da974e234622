-- What is printed of a program is the text of this program.
use Rattle.std.proofs.Common.{◌≡◌, ◌≤◌, List, [], ◌∷◌, ◌++◌, map, length, Option, None, refl, sym, ap, ap₂, ◌∙◌, subst₂, append-nil}
use Rattle.std.specs.List.{AllByRecursion, flat_map}
use Rattle.mig_schema.specs.declared.programs.Function.{Function}
use Rattle.mig_schema.specs.declared.programs.Program.{Program}
use Rattle.mig_schema.specs.declared.tables.Schema.{Schema}
use Rattle.mig_tokens.specs.declared.token.Token.{Token}
use Rattle.mig_tokens.specs.declared.token.Token.TheVariants.{End}
use Rattle.mig_schema.specs.declared.limits.Limit.{Limit}
use Rattle.mig_tokens.specs.Forms.{no_room, start, numbered}
use Rattle.mig_tokens.specs.Marked.{Marked, bare, clean}
use Rattle.mig_tokens.specs.Tokens.{Lexes}
use Rattle.mig_grammar.specs.Spelling.{function_tokens}
use Rattle.mig_grammar.specs.Texts.{IsFunctionsText}
use Rattle.mig_printing.specs.Printing.{function_text, program_text}
use Rattle.mig_syntax.specs.Printable.{IsPrintable}
use Rattle.mig_syntax.specs.Program.{IsProgramText, IsTypedProgramText}
use Rattle.mig_syntax.proofs.Lexing.{ends_flat}
use Rattle.mig_syntax.proofs.LexingFunctions.{ends_function}
use Rattle.mig_syntax.proofs.NamedBack.{GoodFunction, program_back}
use Rattle.mig_syntax.proofs.Nice.{NiceFunction}
use Rattle.mig_syntax.proofs.NiceOf.{good, has_names}
use Rattle.mig_syntax.proofs.PrintedLimits.{functions_limits}
use Rattle.mig_syntax.proofs.PrintedShapes.{functions_shape}
use Rattle.mig_syntax.proofs.Trees.{function_tree, trees_of}
use Rattle.mig_syntax.proofs.Unmarked.{AreUnmarked}

-- tokens that pass no limit are clean
clean_bare : (ms : List Marked) → AreUnmarked ms → ms ≡ clean (bare ms)
clean_bare [] u = refl
clean_bare (m ∷ ms) u = ap₂ (λ (x : Marked) (xs : List Marked). x ∷ xs) (ap (λ (o : Option Limit). (m.0, o)) u.0) (clean_bare ms u.1)

clean_end : (ts : List Token) → clean (ts ++ End ∷ []) ≡ clean ts ++ (End, None) ∷ []
clean_end [] = refl
clean_end (t ∷ ts) = ap (λ (ms : List Marked). (t, None) ∷ ms) (clean_end ts)

nice_functions : (s : Schema) (fs : List Function) → AllByRecursion (GoodFunction s) fs → AllByRecursion (NiceFunction s) fs
nice_functions s [] h = tt
nice_functions s (f ∷ fs) h = (h.0.0, nice_functions s fs h.1)

lexes : (s : Schema) (fs : List Function) → AllByRecursion (NiceFunction s) fs → Lexes (flat_map (function_text s) fs) (bare (numbered no_room function_tokens start (map (function_tree s) fs)))
lexes s fs n =
    subst₂ Lexes (append-nil (flat_map (function_text s) fs)) (append-nil (bare (numbered no_room function_tokens start (map (function_tree s) fs))))
    (ends_flat (NiceFunction s) (function_tree s) no_room (function_text s) function_tokens (ends_function s) start fs n [] [] refl)

functions_text : (s : Schema) (fs : List Function) → AllByRecursion (NiceFunction s) fs → length fs ≤ 32 → IsFunctionsText (flat_map (function_text s) fs) (map (function_tree s) fs)
functions_text s fs n few =
    let ms = numbered no_room function_tokens start (map (function_tree s) fs) in
    record {
      tokens = bare ms ++ End ∷ [];
      lexed = record { body = bare ms; lexes = lexes s fs n; is = refl };
      text = record {
        fits = functions_shape s fs n;
        is = ap (λ (xs : List Marked). xs ++ (End, None) ∷ []) (clean_bare ms (functions_limits s fs n few)) ∙ sym (clean_end (bare ms));
      };
    }

pub printed : (s : Schema) (p : Program) → IsPrintable s p → IsProgramText s (program_text s p) p
printed s p h =
    let all = good s p h in
    record {
      tree = trees_of s p;
      text = functions_text s p.functions (nice_functions s p.functions all) h.within.functions;
      named = program_back s (has_names s p h) p all;
    }

pub printed_typed : (s : Schema) (p : Program) → IsPrintable s p → IsTypedProgramText s (program_text s p) p
printed_typed s p h = record { text = printed s p h; typed = h.typed }
