use Rattle.std.proofs.Common.{◌≡◌, ℕ, ◌≤◌, Bool, cond, List, [], length, sym, ap, ◌∙◌, subst, Option, None}
use Rattle.jpg_spec.proofs.Basics.Common.{lt_no}
use Rattle.jpg_spec_image.specs.BmpFile.{bmp_fault}
use Rattle.jpg_spec_image.specs.ImageSteps.{in_bmp_head, fault_or, bmp_front, head_so_far}
use Rattle.jpg_pnm_bmp.specs.Reader.{Reaches}
use Rattle.jpg_spec.specs.declared.fault.Fault.{Fault}
use Rattle.jpg_pnm_bmp.proofs.read.work.Work.head_grown.Goals as goal

done : (head palette : List ℕ) → 54 ≤ length head → bmp_fault head ≡ None → palette ≡ [] → head_so_far head ≡ bmp_front head palette 0
done head palette h f e =
    ap (λ (v : Bool). cond v (in_bmp_head head) (fault_or (bmp_fault head) (bmp_front head [] 0))) (lt_no (length head) 54 h)
    ∙ ap (λ (o : Option Fault). fault_or o (bmp_front head [] 0)) f
    ∙ ap (λ p. bmp_front head p 0) (sym e)

pub returns-in-None-clause-led : goal.returns-in-None-clause-led
returns-in-None-clause-led c =
    subst (λ s. Reaches [] s c.front_so_far.result c.front_so_far.new.self)
    (sym (done c.args.self.now.head c.clear.new.self (subst (λ x. 54 ≤ length x) c.as_slice.ensures c.if-as_slice-lt54.false) (ap bmp_fault (sym c.as_slice-2.ensures) ∙ sym c.head_fault.ensures ∙ c.in-None.is) c.clear.ensures))
    c.front_so_far.ensures.led
