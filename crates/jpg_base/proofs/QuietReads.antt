-- What a read of a quiet desk does to the state of the desk.
use Rattle.std.proofs.Common.{◌≡◌, ℕ, List, Bool, true, refl, sym, ap, arith, subst, Some}
use Rattle.jpg_base.specs.declared.names.Got.{Got}
use Rattle.jpg_base.specs.declared.names.Got.TheVariants as got
use Rattle.jpg_base.specs.declared.input.Input.{Input}
use Rattle.jpg_base.specs.declared.quiet.QuietDesk.{QuietDesk}
use Rattle.jpg_base.specs.Desk.{Reads, Gives, NoneFell, AfterRead, KeepsInputOpen}
use Rattle.jpg_base.specs.Input.{input_rest}
use Rattle.jpg_base.specs.Quiet.{quiet_state, no_failures}

-- a desk with an open input
abbrev pub opened : Input → Bool → QuietDesk
opened input created = record { input = input; is_open = true; is_created = created }

none_fell : NoneFell no_failures no_failures
none_fell = record { opens = omega arith; reads = omega arith; writes = omega arith; says = omega arith }

taken : (old new : Input) (created : Bool) (answer : Got) (buf : List ℕ) → Gives (input_rest old) answer buf (input_rest new) → AfterRead (quiet_state (opened old created)) answer buf (quiet_state (opened new created))
taken old new created (got.Bytes n) buf g = g
taken old new created got.End buf g = (g.0, ap (λ (rest : List ℕ). Some rest) g.1)
taken old new created got.Failed buf g = absurd g

stays : (old new : Input) (created : Bool) (answer : Got) → KeepsInputOpen (quiet_state (opened old created)) answer (quiet_state (opened new created))
stays old new created (got.Bytes n) = refl
stays old new created got.End = tt
stays old new created got.Failed = tt

reads : (old new : Input) (created : Bool) (answer : Got) (buf : List ℕ) → new.bytes ≡ old.bytes → Gives (input_rest old) answer buf (input_rest new) → Reads (quiet_state (opened old created)) answer buf (quiet_state (opened new created))
reads old new created answer buf e g = record {
  after = taken old new created answer buf g;
  counts = none_fell;
  asked = refl;
  files = ap (λ bytes. Some (λ name. Some bytes.items)) e;
  outputs = refl;
  said = refl;
  input_open = stays old new created answer;
  output_created = refl;
}

-- whether an input is open follows from the condition of the call
pub reads_open : (old new : Input) (is_open created : Bool) (answer : Got) (buf : List ℕ) → is_open ≡ true → new.bytes ≡ old.bytes → Gives (input_rest old) answer buf (input_rest new)
    → Reads (quiet_state (record { input = old; is_open = is_open; is_created = created })) answer buf (quiet_state (record { input = new; is_open = is_open; is_created = created }))
reads_open old new is_open created answer buf o e g =
    let R : Bool → Type 0 = λ b. Reads (quiet_state (record { input = old; is_open = b; is_created = created })) answer buf (quiet_state (record { input = new; is_open = b; is_created = created })) in
    subst R (sym o) (reads old new created answer buf e g)
