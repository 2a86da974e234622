-- One step of a production after the other.
use Rattle.std.proofs.Common.{◌≡◌, List, [], ◌∷◌, ◌++◌, Option, Some, refl, sym, ap, ◌∙◌, subst}
use Rattle.mig_tokens.specs.declared.token.Token.{Token}
use Rattle.mig_schema.specs.declared.limits.Limit.{Limit}
use Rattle.mig_tokens.specs.Marked.{Marked, bare, head}
use Rattle.mig_tokens.specs.Reading.{Read, token_at, give, bind_at}
use Rattle.mig_tokens.proofs.Laws.{Law, Example, Gives, Any, Both, Single, give_law, narrowed, known_law, token_law, respelled}

-- spelled by a function
abbrev pub Spelt : {B : Type 0} → (B → List Marked) → (B → Type 0) → List Marked → B → Type 0
Spelt spell Fits ms y = Fits y × (ms ≡ spell y)

-- a part with its law, and a value of it
pub record Part {B : Type 0} (reads : List Token → Read B) (spell : B → List Marked) (Fits : B → Type 0) (N : Option Token → Type 0) : Type 0 where
  pub law : Law reads (Spelt spell Fits) N
  pub example : B
  pub fits : Fits example

pub example_of : {B : Type 0} {reads : List Token → Read B} {spell : B → List Marked} {Fits : B → Type 0} {N : Option Token → Type 0} → Part reads spell Fits N → Example (Spelt spell Fits)
example_of {spell = spell} p = record { value = p.example; marked = spell p.example; spelled = (p.fits, refl) }

-- the same under another name for what fits
pub refit : {B : Type 0} (reads : List Token → Read B) (spell : B → List Marked) (F G : B → Type 0) (N : Option Token → Type 0) → ((y : B) → F y → G y) → ((y : B) → G y → F y) → Part reads spell F N → Part reads spell G N
refit reads spell F G N f g p = record { law = respelled reads (Spelt spell F) (Spelt spell G) N (λ ms y h. (f y h.0, h.1)) (λ ms y h. (g y h.0, h.1)) p.law; example = p.example; fits = f p.example p.fits }

-- the end of a production: r is made of what was read
pub made : {B : Type 0} (r : B) (E : B → Type 0) (N : Option Token → Type 0) → E r → ((y : B) → E y → y ≡ r) → Part (give r) (λ y. []) (λ y. E y × Unit {0}) N
made r E N e f = record {
  law = respelled (give r) (Gives r) (Spelt (λ y. []) (λ y. E y × Unit {0})) N (λ ms y g. ((subst E (sym g.1) e, tt), g.0)) (λ ms y s. (s.1, f y s.0.0)) (narrowed (give r) (Gives r) Any N (λ o h. tt) (give_law r));
  example = r;
  fits = (e, tt);
}

-- a token that reads as a value
pub record Reader {A : Type 0} (reads : Token → Option A) (unread : A → Token) (F : A → Type 0) : Type 0 where
  pub to : (t : Token) (x : A) → reads t ≡ Some x → (t ≡ unread x) × F x
  pub from : (x : A) → F x → reads (unread x) ≡ Some x
  pub example : A
  pub fits : F example

pub one_token : {A : Type 0} (reads : Token → Option A) (unread : A → Token) (F : A → Type 0) (mark : A → Option Limit) → Reader reads unread F → Part (token_at reads mark) (λ x. (unread x, mark x) ∷ []) F Any
one_token reads unread F mark r = record {
  law = respelled (token_at reads mark) (Single reads mark) (Spelt (λ x. (unread x, mark x) ∷ []) F) Any
      (λ ms x s. let k = r.to s.0 x s.2 in (k.1, s.1 ∙ ap (λ t. (t, mark x) ∷ []) k.0))
      (λ ms x s. (unread x, s.1, r.from x s.0))
      (token_law reads mark (record { value = r.example; marked = (unread r.example, mark r.example) ∷ []; spelled = (unread r.example, refl, r.from r.example r.fits) }));
  example = r.example;
  fits = r.fits;
}

-- A part x, and then what stands behind it. In a value y it is field y; E is what is known of the fields before.
pub step : {A B : Type 0} (field : B → A) (E G : B → Type 0) (p : List Token → Read A) (sp : A → List Marked) (F : A → Type 0) (NP N : Option Token → Type 0) (q : A → List Token → Read B) (tail : B → List Marked)
    → Part p sp F NP
    → ((x : A) → F x → Part (q x) tail (λ y. ((field y ≡ x) × E y) × G y) N)
    → ((y : B) (rest : List Token) → G y → N (head rest) → NP (head (bare (tail y) ++ rest)))
    → Part (bind_at p q) (λ y. sp (field y) ++ tail y) (λ y. E y × (F (field y) × G y)) N
step field E G p sp F NP N q tail part then fence =
    let k = then part.example part.fits in
    record {
      law = respelled (bind_at p q) (Both (Spelt sp F) (λ x. Spelt tail (λ y. ((field y ≡ x) × E y) × G y))) (Spelt (λ y. sp (field y) ++ tail y) (λ y. E y × (F (field y) × G y))) N
          (λ ms y b. ((b.5.0.0.1, (subst F (sym b.5.0.0.0) b.4.0, b.5.0.1)), b.3 ∙ ap (λ m. m ++ b.1) (b.4.1 ∙ ap sp (sym b.5.0.0.0)) ∙ ap (λ m. sp (field y) ++ m) b.5.1))
          (λ ms y s. (sp (field y), tail y, field y, s.1, (s.0.1.0, refl), (((refl, s.0.0), s.0.1.1), refl)))
          (known_law p q (Spelt sp F) (λ x. Spelt tail (λ y. ((field y ≡ x) × E y) × G y)) NP N part.law (λ x ms s. (then x s.0).law) (λ x ms s. example_of (then x s.0))
          (λ x ms y rest s n. subst (λ (m : List Marked). NP (head (bare m ++ rest))) (sym s.1) (fence y rest s.0.1 n)));
      example = k.example;
      fits = (k.fits.0.1, (subst F (sym k.fits.0.0) part.fits, k.fits.1));
    }

-- a token with a value, and then what stands behind it
pub valued : {A B : Type 0} {G : B → Type 0} {N : Option Token → Type 0} {q : A → List Token → Read B} {tail : B → List Marked} (field : B → A) (E : B → Type 0) (reads : Token → Option A) (unread : A → Token) (F : A → Type 0) (mark : A → Option Limit)
    → Reader reads unread F
    → ((x : A) → Part (q x) tail (λ y. ((field y ≡ x) × E y) × G y) N)
    → Part (bind_at (token_at reads mark) q) (λ y. (unread (field y), mark (field y)) ∷ tail y) (λ y. E y × (F (field y) × G y)) N
valued {G = G} {N = N} {q = q} {tail = tail} field E reads unread F mark r then =
    step field E G (token_at reads mark) (λ x. (unread x, mark x) ∷ []) F Any N q tail (one_token reads unread F mark r) (λ x f. then x) (λ y rest g n. tt)

-- a token that says nothing, and then what stands behind it
pub fixed : {B : Type 0} {G : B → Type 0} {N : Option Token → Type 0} {q : List Token → Read B} {tail : B → List Marked} (E : B → Type 0) (reads : Token → Option (Unit {0})) (t : Token) (m : Option Limit)
    → Reader reads (λ u. t) (λ u. Unit {0})
    → Part q tail (λ y. E y × G y) N
    → Part (bind_at (token_at reads (λ u. m)) (λ u. q)) (λ y. (t, m) ∷ tail y) (λ y. E y × G y) N
fixed {B} {G = G} {N = N} {q = q} {tail = tail} E reads t m r then =
    refit (bind_at (token_at reads (λ u. m)) (λ u. q)) (λ y. (t, m) ∷ tail y) (λ y. E y × (Unit {0} × G y)) (λ y. E y × G y) N (λ y h. (h.0, h.1.1)) (λ y h. (h.0, (tt, h.1)))
    (step {A = Unit {0}} {B = B} (λ y. tt) E G (token_at reads (λ u. m)) (λ u. (t, m) ∷ []) (λ u. Unit {0}) Any N (λ u. q) tail (one_token reads (λ u. t) (λ u. Unit {0}) (λ u. m) r)
    (λ u f. refit q tail (λ y. E y × G y) (λ y. ((tt ≡ u) × E y) × G y) N (λ y h. ((refl, h.0), h.1)) (λ y h. (h.0.1, h.1)) then)
    (λ y rest g n. tt))

-- any part, and then what stands behind it, which may build on what is known of the part
pub whole_known : {A B : Type 0} {G : B → Type 0} {NP N : Option Token → Type 0} {p : List Token → Read A} {sp : A → List Marked} {F : A → Type 0} {q : A → List Token → Read B} {tail : B → List Marked} (field : B → A) (E : B → Type 0)
    → Part p sp F NP
    → ((x : A) → F x → Part (q x) tail (λ y. ((field y ≡ x) × E y) × G y) N)
    → ((y : B) (rest : List Token) → G y → N (head rest) → NP (head (bare (tail y) ++ rest)))
    → Part (bind_at p q) (λ y. sp (field y) ++ tail y) (λ y. E y × (F (field y) × G y)) N
whole_known {G = G} {NP = NP} {N = N} {p = p} {sp = sp} {F = F} {q = q} {tail = tail} field E part then fence = step field E G p sp F NP N q tail part then fence

-- any part, and then what stands behind it
pub whole : {A B : Type 0} {G : B → Type 0} {NP N : Option Token → Type 0} {p : List Token → Read A} {sp : A → List Marked} {F : A → Type 0} {q : A → List Token → Read B} {tail : B → List Marked} (field : B → A) (E : B → Type 0)
    → Part p sp F NP
    → ((x : A) → Part (q x) tail (λ y. ((field y ≡ x) × E y) × G y) N)
    → ((y : B) (rest : List Token) → G y → N (head rest) → NP (head (bare (tail y) ++ rest)))
    → Part (bind_at p q) (λ y. sp (field y) ++ tail y) (λ y. E y × (F (field y) × G y)) N
whole field E part then fence = whole_known field E part (λ x f. then x) fence
