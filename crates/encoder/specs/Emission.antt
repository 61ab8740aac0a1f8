-- What emitting a table's clauses for n steps answers, and what becomes of the store.
-- Assumes nothing.
use Rattle.std.specs.Prelude.{◌≡◌, ℕ, cond, not, List, length, ℤ, Ok, Err, Result, nat_lt}
use Rattle.encoding.specs.Clauses.{signed_formula}
use Rattle.encoding.specs.Limits.{step_limit}
use Rattle.encoding.specs.Tables.{Table}
use Rattle.store.specs.Clauses.{Added, Prices, price_of}
use Rattle.table.specs.Entries.{from}
use Rattle.encoder.specs.declared.faults.EmitFault.{EmitFault}
use Rattle.encoder.specs.declared.faults.EmitFault.TheVariants.{StepsOutOfLimits, PriceExceedsFree}

-- It grants exactly when n is 1 to 64 and the prices of the clauses together fit the free units, and answers how many clauses there are
abbrev pub emit_answer : Table → ℕ → Prices → ℕ → Result ℕ EmitFault
emit_answer T n prices free =
    cond (not (from 1 step_limit n)) (Err StepsOutOfLimits)
    (cond (nat_lt free (price_of prices (signed_formula T n))) (Err PriceExceedsFree)
    (Ok (length (signed_formula T n))))

-- Granted, exactly the clauses of the list join the end of a store s, which is t afterwards, in their order, and their prices leave the free
-- units. Refused, the store stays as it was
abbrev pub Emitted : {X : Type 0} (held : X → List (List ℤ)) (units : X → ℕ) (prices : Prices) (s t : X) (T : Table) (n : ℕ) → Result ℕ EmitFault → Type 0
Emitted held units prices s t T n (Ok count) = Added held units prices s t (signed_formula T n)
Emitted held units prices s t T n (Err fault) = t ≡ s
