-- The records that a reader of a file has left.
use Rattle.std.proofs.Common.{◌≡◌, ◌∙◌, ◌⊎◌, inl, inr, ℕ, zero, suc, ◌+◌, ◌<◌, Bool, true, false, if◌then◌else◌, List, [], ◌∷◌, length, Option, Some, None, refl, sym, ap, subst, arith}
use Rattle.csv.specs.Machine.{Read, ends_at_end, field_after, fields_after, is_end, next_record, step}
use Rattle.csv.specs.Reading.{ReadRecord, Reached, default_config, records_from, records_next, source_of, strip_bom}
use Rattle.csv.specs.declared.parser.Config.{Config}
use Rattle.csv.specs.declared.parser.State.{State}
use Rattle.csv.specs.declared.parser.State.TheVariants as st
use Rattle.csv.specs.declared.reader.Reader.{Reader}
use Rattle.csv.proofs.ReadFacts.{rows-end, rows-more}
use Rattle.mig_store.specs.Reading.{Record, records_in}

-- one of two reads, or none
pick : (b : Bool) (q : Read) (o : Option Read) (p : Read) {G : Type 0} → (if b then Some q else o) ≡ Some p → (q ≡ p → G) → (o ≡ Some p → G) → G
pick true q o p e f g = f (cc e)
pick false q o p e f g = g e

-- no record is left, or fewer bytes than before
abbrev pub IsLess : Config → (bytes : ℕ) → Read → Type 0
IsLess cfg n p = (next_record cfg p.1 [] [] p.2 ≡ None) ⊎ (length p.2 < n)

less-more : (cfg : Config) (n : ℕ) (p : Read) → IsLess cfg n p → IsLess cfg (suc n) p
less-more cfg n p (inl e) = inl e
less-more cfg n p (inr l) = inr (omega (arith, l))

-- a read of a record takes bytes, or is the last
less : (cfg : Config) (s : State) (fields : List (List ℕ)) (field xs : List ℕ) (p : Read) → next_record cfg s fields field xs ≡ Some p → IsLess cfg (length xs) p
unfolding next_record
less cfg s fields field [] p e = pick (ends_at_end s) _ None p e (λ q. subst (IsLess cfg 0) q (inl refl)) (λ q. cc q)
less cfg s fields field (c ∷ rest) p e =
    pick (is_end (step cfg s c).1) _ _ p e
    (λ q. subst (IsLess cfg (suc (length rest))) q (inr (omega arith)))
    (λ q. less-more cfg (length rest) p (less cfg (step cfg s c).0 (fields_after (step cfg s c).1 fields field) (field_after (step cfg s c).1 c field) rest p q))

-- these are the records from here on
pub record IsRest (cfg : Config) (s : State) (bytes : List ℕ) (rs : List Record) : Type 0 where
  pub fuel : ℕ
  pub are : records_from cfg fuel s bytes ≡ rs
  pub enough : (next_record cfg s [] [] bytes ≡ None) ⊎ (length bytes < fuel)

-- a record, and those behind it
pub record IsNext (cfg : Config) (rs : List Record) (p : Read) : Type 0 where
  pub behind : List Record
  pub split : rs ≡ p.0 ∷ behind
  pub rest : IsRest cfg p.1 p.2 behind

next-at : (cfg : Config) (s : State) (bytes : List ℕ) (rs : List Record) (p : Read) (n : ℕ) → records_from cfg n s bytes ≡ rs → length bytes < n → next_record cfg s [] [] bytes ≡ Some p → IsNext cfg rs p
unfolding records_from
next-at cfg s bytes rs p zero is l e = absurd (omega (arith, l))
next-at cfg s bytes rs p (suc n) is l e =
    record {
      behind = records_from cfg n p.1 p.2;
      split = sym is ∙ ap (records_next (records_from cfg n)) e;
      rest = record { fuel = n; are = refl; enough = by (less cfg s [] [] bytes p e) };
    }
  where
    by : IsLess cfg (length bytes) p → (next_record cfg p.1 [] [] p.2 ≡ None) ⊎ (length p.2 < n)
    by (inl none) = inl none
    by (inr k) = inr (omega (arith, k, l))

-- where there is a next record, it is the first of those
rest-next : (cfg : Config) (s : State) (bytes : List ℕ) (rs : List Record) (p : Read) → IsRest cfg s bytes rs → next_record cfg s [] [] bytes ≡ Some p → IsNext cfg rs p
rest-next cfg s bytes rs p h e = by h.enough
  where
    by : (next_record cfg s [] [] bytes ≡ None) ⊎ (length bytes < h.fuel) → IsNext cfg rs p
    by (inl none) = cc (sym none ∙ e)
    by (inr l) = next-at cfg s bytes rs p h.fuel h.are l e

-- where there is no next record, there are none
rest-none : (cfg : Config) (s : State) (bytes : List ℕ) (rs : List Record) → IsRest cfg s bytes rs → next_record cfg s [] [] bytes ≡ None → rs ≡ []
unfolding records_from
rest-none cfg s bytes rs h e = sym h.are ∙ none h.fuel
  where
    none : (n : ℕ) → records_from cfg n s bytes ≡ []
    none zero = refl
    none (suc n) = ap (records_next (records_from cfg n)) e

-- a reader has these records left
pub record IsLeft {R : Type 0} (rem : R → Option (List ℕ)) (a : Reader R) (rs : List Record) : Type 0 where
  pub bytes : List ℕ
  pub config : a.config ≡ default_config
  pub source : source_of rem a ≡ Some bytes
  pub rest : IsRest default_config a.state bytes rs

-- at the start all of them
pub left-all : {R : Type 0} (rem : R → Option (List ℕ)) (a : Reader R) (bytes : List ℕ) → a.config ≡ default_config → a.state ≡ st.StartRecord → source_of rem a ≡ Some (strip_bom bytes)
    → IsLeft rem a (records_in bytes)
left-all rem a bytes config state source = record {
  bytes = strip_bom bytes;
  config = config;
  source = source;
  rest = subst (λ s. IsRest default_config s (strip_bom bytes) (records_in bytes)) (sym state) (record { fuel = length (strip_bom bytes) + 1; are = refl; enough = inr (omega arith) });
}

-- after a record those behind it
pub record IsLeftBehind {R : Type 0} (rem : R → Option (List ℕ)) (b : Reader R) (r : Record) (rs : List Record) : Type 0 where
  pub behind : List Record
  pub split : rs ≡ r ∷ behind
  pub left : IsLeft rem b behind

pub left-more : {R : Type 0} (rem : R → Option (List ℕ)) (a b : Reader R) (r : Record) (rs : List Record) → IsLeft rem a rs → ReadRecord rem a b true r → IsLeftBehind rem b r rs
unfolding Reached
left-more rem a b r rs h read =
    let m = rows-more rem a b r default_config a.state h.bytes h.bytes [] h.config h.source (refl, refl) read in
    let next = rest-next default_config a.state h.bytes rs m.2.0 h.rest m.2.1 in
    record {
      behind = next.behind;
      split = next.split ∙ ap (λ (x : Record). x ∷ next.behind) (sym m.2.2);
      left = record {
        bytes = m.0;
        config = read.2 ∙ h.config;
        source = m.1;
        rest = subst (λ s. IsRest default_config s m.0 next.behind) m.2.3.0 (subst (λ ys. IsRest default_config m.2.0.1 ys next.behind) m.2.3.1 next.rest);
      };
    }

-- where no record was found, none is left
pub left-none : {R : Type 0} (rem : R → Option (List ℕ)) (a b : Reader R) (rs : List Record) → IsLeft rem a rs → ReadRecord rem a b false [] → rs ≡ []
left-none rem a b rs h read = rest-none default_config a.state h.bytes rs h.rest (rows-end rem a b [] default_config h.bytes h.config h.source read)
