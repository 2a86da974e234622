-- A schema breaks no rule exactly where it is typed.
use Rattle.std.proofs.Common.{◌≡◌, ℕ, ◌<◌, ◌≤◌, Bool, true, false, ◌&&◌, List, [], ◌∷◌, length, get_or, refl, sym, ap, ◌∙◌, ⊎_elim}
use Rattle.std.specs.Prelude.{◌==◌}
use Rattle.std.proofs.lemmas.Bool.{and_left, and_right, and_from}
use Rattle.mig_schema.specs.declared.faults.Side.{Side}
use Rattle.mig_schema.specs.declared.faults.SchemaRule.{SchemaRule}
use Rattle.mig_schema.specs.declared.faults.SchemaRule.TheVariants.{TableTwice, ColumnTwice, LinkEnd, LinkTables, LinkKinds}
use Rattle.mig_schema.specs.declared.faults.TypeFault.{TypeFault}
use Rattle.mig_schema.specs.declared.faults.TypeFault.TheVariants as fault
use Rattle.mig_schema.specs.declared.tables.Schema.{Schema}
use Rattle.mig_schema.specs.Typed.{IsTypedSchema, table_twice, column_twice, link_end, link_tables, link_kinds}
use Rattle.mig_typing.specs.First.{Before, IsFirstBroken}
use Rattle.mig_typing.specs.Broken.{schema_rank, numbers, item_has, same_side, schema_broken, schema_breaks}
use Rattle.mig_typing.proofs.Items.{left_of, none_any, any_none}
use Rattle.mig_typing.proofs.Orders.{own_side}

module _ (s : Schema) where
  pub schema_typed : ((p : SchemaRule × ℕ × ℕ) → schema_broken s p.0 p.1 p.2 ≡ false) → IsTypedSchema s
  schema_typed none = record {
    tables = λ k. left_of (table_twice s k) (none (TableTwice, k, 0));
    columns = λ t k. none (ColumnTwice, t, k);
    ends = none_any (link_end s) s.links (λ k. left_of (item_has (link_end s) s.links k) (none (LinkEnd, k, 0)));
    apart = none_any link_tables s.links (λ k. left_of (item_has link_tables s.links k) (none (LinkTables, k, 0)));
    kinds = none_any (link_kinds s) s.links (λ k. left_of (item_has (link_kinds s) s.links k) (none (LinkKinds, k, 0)));
  }

  schema_clear : IsTypedSchema s → (r : SchemaRule) (a b : ℕ) → schema_broken s r a b ≡ false
  schema_clear typed TableTwice a b = and_left (table_twice s a) (b == 0) (typed.tables a)
  schema_clear typed ColumnTwice a b = typed.columns a b
  schema_clear typed LinkEnd a b = and_left (item_has (link_end s) s.links a) (b == 0) (any_none (link_end s) s.links typed.ends a)
  schema_clear typed LinkTables a b = and_left (item_has link_tables s.links a) (b == 0) (any_none link_tables s.links typed.apart a)
  schema_clear typed LinkKinds a b = and_left (item_has (link_kinds s) s.links a) (b == 0) (any_none (link_kinds s) s.links typed.kinds a)

  pub schema_none : (side : Side) → ((p : SchemaRule × ℕ × ℕ) → schema_broken s p.0 p.1 p.2 ≡ false) → (f : TypeFault) → schema_breaks s side f ≡ false
  schema_none side none fault.Memory = refl
  schema_none side none (fault.Schema on r a b) = and_right (same_side on side) (schema_broken s r a b) (none (r, a, b))
  schema_none side none (fault.Program r f k) = refl
  schema_none side none (fault.Hint r k) = refl

  pub typed_none : (side : Side) → IsTypedSchema s → (f : TypeFault) → schema_breaks s side f ≡ false
  typed_none side typed f = schema_none side (λ p. schema_clear typed p.0 p.1 p.2) f

  schema_before : (side : Side) (p : SchemaRule × ℕ × ℕ) → IsFirstBroken (λ (p : SchemaRule × ℕ × ℕ). schema_rank p.0 ∷ p.1 ∷ p.2 ∷ []) (λ p. schema_broken s p.0 p.1 p.2) p
      → (f : TypeFault) → Before (numbers f) (numbers (fault.Schema side p.0 p.1 p.2)) → schema_breaks s side f ≡ false
  schema_before side p first fault.Memory lt = refl
  schema_before side p first (fault.Schema on r a b) lt = and_right (same_side on side) (schema_broken s r a b) (first.before (r, a, b) lt)
  schema_before side p first (fault.Program r f k) lt = refl
  schema_before side p first (fault.Hint r k) lt = refl

  pub schema_first : (side : Side) (p : SchemaRule × ℕ × ℕ) → IsFirstBroken (λ (p : SchemaRule × ℕ × ℕ). schema_rank p.0 ∷ p.1 ∷ p.2 ∷ []) (λ p. schema_broken s p.0 p.1 p.2) p
      → IsFirstBroken numbers (schema_breaks s side) (fault.Schema side p.0 p.1 p.2)
  schema_first side p first = record { here = and_from (same_side side side) (schema_broken s p.0 p.1 p.2) (own_side side) first.here; before = schema_before side p first }
