-- The end stands last and once: in the pieces of bytes, and in the spelling of a certificate.
use Rattle.std.proofs.Common.{◌≡◌, ℕ, Bool, true, false, if◌then◌else◌, List, [], ◌∷◌, ◌++◌, None, codes, refl, sym, ap, ◌∙◌, append_assoc}
use Rattle.mig_tokens.specs.declared.token.Token.{Token}
use Rattle.mig_tokens.specs.declared.token.Token.TheVariants.{Word, Int, Text, Sign, Bad, End}
use Rattle.mig_tokens.specs.Bytes.{is_letter, is_name_byte, first_is}
use Rattle.mig_tokens.specs.Marked.{Marked, bare}
use Rattle.mig_tokens.specs.Forms.{Before, start, no_room, word, numbered}
use Rattle.mig_steps.specs.declared.steps.Step.{Step}
use Rattle.mig_certificate.specs.declared.proofs.Claim.{Claim}
use Rattle.mig_certificate.specs.declared.proofs.Claim.TheVariants.{Holds, Answers}
use Rattle.mig_certificate.specs.declared.proofs.Entry.{Entry}
use Rattle.mig_certificate.specs.declared.proofs.PairProof.{PairProof}
use Rattle.mig_tokens.proofs.Laws.{bare-append}
use Rattle.mig_tokens.proofs.Whole.{Closed}
use Rattle.mig_tokens.proofs.Closed.{Plain, Inner, last_end, both, plain_numbered, plain_led}
use Rattle.mig_reading.specs.declared.tree.ViewTree.{ViewTree}
use Rattle.mig_reading.specs.declared.tree.FactTree.{FactTree}
use Rattle.mig_reading.specs.declared.tree.FactTree.TheVariants.{Views, Unique, Columns}
use Rattle.mig_reading.specs.declared.tree.CertificateTree.{CertificateTree}
use Rattle.mig_reading.specs.Pieces.{run, joined, pieces, pieces_to_end}
use Rattle.mig_reading.specs.Spelling.{feed, out_tokens, more_out_tokens, outs_tokens, joined_tokens, view_tokens, fact_tokens, part_tokens, more_part_tokens, path_tokens, arg_tokens, step_tokens, claim_tokens, entry_tokens, pair_tokens, certificate_tokens}

-- ---- pieces

plain_run : (w : List ℕ) (ts : List Token) → Plain ts → Plain (run w ∷ ts)
plain_run w ts h = by_test (first_is is_letter w)
  where
    by_test : (t : Bool) → Plain ((if t then Word w else Int w) ∷ ts)
    by_test true = (refl, h)
    by_test false = (refl, h)

plain_joined : (b : ℕ) (ts : List Token) → Plain ts → Plain (joined b ts)
plain_joined b [] h = plain_run (b ∷ []) [] h
plain_joined b (Word v ∷ ts) h = plain_run (b ∷ v) ts h.1
plain_joined b (Int v ∷ ts) h = plain_run (b ∷ v) ts h.1
plain_joined b (Text v ∷ ts) h = plain_run (b ∷ []) (Text v ∷ ts) h
plain_joined b (Sign v ∷ ts) h = plain_run (b ∷ []) (Sign v ∷ ts) h
plain_joined b (Bad ∷ ts) h = plain_run (b ∷ []) (Bad ∷ ts) h
plain_joined b (End ∷ ts) h = plain_run (b ∷ []) (End ∷ ts) h

plain_pieces : (bytes : List ℕ) → Plain (pieces bytes)
plain_pieces [] = tt
plain_pieces (b ∷ bs) = by_test (plain_pieces bs) (is_name_byte b)
  where
    by_test : Plain (pieces bs) → (t : Bool) → Plain (if t then joined b (pieces bs) else Sign (b ∷ []) ∷ pieces bs)
    by_test h true = plain_joined b (pieces bs) h
    by_test h false = (refl, h)

pub closed : (bytes : List ℕ) → Closed (pieces_to_end bytes)
closed bytes = record { body = pieces bytes; is = refl; once = λ a b e. last_end (pieces bytes) a b (plain_pieces bytes) e }

-- ---- spellings

plain_view : (v : ViewTree) → Inner (view_tokens v)
plain_view v = (
  refl,
  (
    refl,
    both (numbered no_room joined_tokens (1, 0) v.join.more) _ (plain_numbered no_room joined_tokens (λ k j. (refl, (refl, (refl, (refl, (refl, (refl, (refl, (refl, (refl, (refl, (refl, (refl, (refl, (refl, (refl, (refl, tt))))))))))))))))) (1, 0) v.join.more)
        (refl, (refl, both (outs_tokens v.outs) _ (plain_led no_room out_tokens more_out_tokens (λ k c. (refl, (refl, (refl, tt)))) (λ k c. (refl, (refl, (refl, (refl, (refl, tt)))))) start v.outs) (refl, (refl, tt)))),
  ),
)

plain_fact : (s : Before) (y : FactTree) → Inner (fact_tokens s y)
plain_fact s (Views source target) = (refl, (refl, both (view_tokens source) _ (plain_view source) (refl, (refl, (refl, both (view_tokens target) _ (plain_view target) (refl, (refl, tt)))))))
plain_fact s (Unique side column) = (refl, (refl, (refl, (refl, (refl, (refl, (refl, (refl, (refl, tt)))))))))
plain_fact s (Columns relation side left right) = (refl, (refl, (refl, (refl, (refl, (refl, (refl, (refl, (refl, (refl, (refl, (refl, (refl, tt)))))))))))))

plain_path : (ns : List ℕ) → Inner (path_tokens ns)
plain_path [] = (refl, tt)
plain_path (n ∷ ns) = plain_led no_room part_tokens more_part_tokens (λ k m. (refl, tt)) (λ k m. (refl, (refl, tt))) start (n ∷ ns)

plain_step : (s : Before) (x : Step) → Inner (step_tokens s x)
plain_step s x = (
  refl,
  (
    refl,
    (
      refl,
      (
        refl,
        both (path_tokens x.path) _ (plain_path x.path)
            (both (numbered no_room arg_tokens start x.args) (feed ∷ []) (plain_numbered no_room arg_tokens (λ k n. (refl, (refl, tt))) start x.args) (refl, tt)),
      ),
    ),
  ),
)

plain_claim : (c : Claim) → Inner (claim_tokens c)
plain_claim (Holds k) = (refl, (refl, (refl, tt)))
plain_claim Answers = (refl, tt)

plain_steps : (xs : List Step) → Inner (numbered no_room step_tokens start xs)
plain_steps = plain_numbered no_room step_tokens plain_step start

plain_entry : (s : Before) (e : Entry) → Inner (entry_tokens s e)
plain_entry s e = both (claim_tokens e.claim) _ (plain_claim e.claim) (refl, (refl, (refl, both (numbered no_room step_tokens start e.source) _ (plain_steps e.source) (refl, (refl, plain_steps e.target)))))

plain_pair : (s : Before) (p : PairProof) → Inner (pair_tokens s p)
plain_pair s p = (refl, (refl, (refl, (refl, plain_numbered no_room entry_tokens plain_entry start p.entries))))

-- ---- certificates

abbrev facts_tokens : List FactTree → List Marked
facts_tokens = numbered no_room fact_tokens start

abbrev pairs_tokens : List PairProof → List Marked
pairs_tokens = numbered no_room pair_tokens start

abbrev last_line : List Marked
last_line = word (codes "end") ∷ feed ∷ []

-- a certificate without its end
abbrev body : CertificateTree → List Marked
body c = word (codes "invariants") ∷ feed ∷ (facts_tokens c.invariants ++ word (codes "certificate") ∷ feed ∷ (pairs_tokens c.pairs ++ last_line))

body_last : (c : CertificateTree) → certificate_tokens c ≡ body c ++ (End, None) ∷ []
body_last c = regroup (facts_tokens c.invariants) (pairs_tokens c.pairs)
  where
    regroup : (a b : List Marked) → word (codes "invariants") ∷ feed ∷ (a ++ word (codes "certificate") ∷ feed ∷ (b ++ word (codes "end") ∷ feed ∷ (End, None) ∷ []))
        ≡ (word (codes "invariants") ∷ feed ∷ (a ++ word (codes "certificate") ∷ feed ∷ (b ++ last_line))) ++ (End, None) ∷ []
    regroup a b = simp append_assoc

plain_body : (c : CertificateTree) → Inner (body c)
plain_body c = (
  refl,
  (
    refl,
    both (facts_tokens c.invariants) _ (plain_numbered no_room fact_tokens plain_fact start c.invariants)
        (refl, (refl, both (pairs_tokens c.pairs) last_line (plain_numbered no_room pair_tokens plain_pair start c.pairs) (refl, (refl, tt)))),
  ),
)

pub ends : (c : CertificateTree) → (front : List Marked) × (certificate_tokens c ≡ front ++ (End, None) ∷ [])
ends c = (body c, body_last c)

pub once : (c : CertificateTree) (a b : List Token) → bare (certificate_tokens c) ≡ a ++ End ∷ b → b ≡ []
once c a b e = last_end (bare (body c)) a b (plain_body c) (sym (ap bare (body_last c) ∙ bare-append (body c) ((End, None) ∷ [])) ∙ e)
