-- The request of a frame, by its operation, and by the first two fields of a walk along it, operation and allowance.
use mathlib.Core.Path.{◌≡◌}
use mathlib.Core.List.{List}
use Prim.Native.Nat.{ℕ, ◌<◌}
use native.Mathlib.Omega.{arith}
use Rattle.std.proofs.Common.{◌⊎◌, inl, inr}
use borrow.Author.Tests.{ne_eqb}
use Rattle.model.specs.Driving.{bytes_of, operation, allowance, format_sizes}
use Rattle.std.specs.Borrow.{Bor}
use Rattle.line.specs.declared.Line.{Line}
use Rattle.line.specs.Field.{field_at, at_start, behind}
use Rattle.frame.specs.declared.Request.TheVariants.{Format, Erase, Drain, Recover}
use Rattle.frame.specs.Request.{format_from, read_from, write_from, bare_from, frame_request}

module _ (f : List ℕ) where
  pub format_asked : operation f ≡ 1 → frame_request f ≡ Format (allowance f) (format_sizes f)
  unfolding frame_request format_from
  format_asked e = rw e

  asked-format : field_at f 0 1 ≡ 1 → format_from (field_at f 1 2) f ≡ frame_request f
  unfolding field_at operation allowance frame_request
  asked-format e = rw e

  asked-read : field_at f 0 1 ≡ 2 → read_from (field_at f 1 2) f ≡ frame_request f
  unfolding field_at operation allowance frame_request
  asked-read e = rw e

  asked-write : field_at f 0 1 ≡ 3 → write_from (field_at f 1 2) f ≡ frame_request f
  unfolding field_at operation allowance frame_request
  asked-write e = rw e

  asked-erase : field_at f 0 1 ≡ 4 → Erase (field_at f 1 2) ≡ frame_request f
  unfolding field_at operation allowance frame_request bare_from
  asked-erase e = rw e

  asked-drain : field_at f 0 1 ≡ 5 → Drain (field_at f 1 2) ≡ frame_request f
  unfolding field_at operation allowance frame_request bare_from
  asked-drain e = rw e

  asked-recover : field_at f 0 1 ≡ 6 → Recover (field_at f 1 2) ≡ frame_request f
  unfolding field_at operation allowance frame_request bare_from
  asked-recover e = rw e

  asked_nothing : (field_at f 0 1 ≡ 0) ⊎ (6 < field_at f 0 1) → Recover (field_at f 1 2) ≡ frame_request f
  unfolding field_at operation allowance frame_request bare_from
  asked_nothing (inl e) = rw e
  asked_nothing (inr h) =
      let is = field_at f 0 1 in
      rw (ne_eqb is 1 (λ e. omega arith), ne_eqb is 2 (λ e. omega arith), ne_eqb is 3 (λ e. omega arith), ne_eqb is 4 (λ e. omega arith), ne_eqb is 5 (λ e. omega arith))

-- a walk behind the operation and behind the allowance
module _ {text : Bor (List ℕ)} {s o a : Line} (h : s ≡ at_start text) (k : o ≡ behind s 1) (m : a ≡ behind o 2) where
  abbrev f : List ℕ
  f = bytes_of text.now

  pub format-walked : o.field ≡ 1 → format_from a.field (bytes_of a.text.now) ≡ frame_request f
  format-walked e = rw (m, k, h) (asked-format f (rw (k, h) at e))

  pub read-walked : o.field ≡ 2 → read_from a.field (bytes_of a.text.now) ≡ frame_request f
  read-walked e = rw (m, k, h) (asked-read f (rw (k, h) at e))

  pub write-walked : o.field ≡ 3 → write_from a.field (bytes_of a.text.now) ≡ frame_request f
  write-walked e = rw (m, k, h) (asked-write f (rw (k, h) at e))

  pub erase-walked : o.field ≡ 4 → Erase a.field ≡ frame_request f
  erase-walked e = rw (m, k, h) (asked-erase f (rw (k, h) at e))

  pub drain-walked : o.field ≡ 5 → Drain a.field ≡ frame_request f
  drain-walked e = rw (m, k, h) (asked-drain f (rw (k, h) at e))

  pub recover-walked : o.field ≡ 6 → Recover a.field ≡ frame_request f
  recover-walked e = rw (m, k, h) (asked-recover f (rw (k, h) at e))

  pub nothing-walked : (o.field ≡ 0) ⊎ (6 < o.field) → Recover a.field ≡ frame_request f
  nothing-walked e = rw (m, k, h) (asked_nothing f (rw (k, h) at e))
