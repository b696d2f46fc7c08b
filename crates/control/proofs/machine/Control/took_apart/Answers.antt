use Rattle.control.proofs.machine.Control.took_apart.Goals as goal

pub returns-then-goes_on_in_image-clause-again : goal.returns-then-goes_on_in_image-clause-again
returns-then-goes_on_in_image-clause-again c = (λ more. absurd cc, λ waits. absurd (c.goes_on_in_image.ensures.calm c.if-goes_on_in_image.true waits))
