use Rattle.tm_cert_file.specs.declared.seen.Next.TheVariants.{May}
use Rattle.tm_cert_file.proofs.Looking.{seen_none}
use Rattle.tm_cert_file.proofs.reader.Reader.open.Goals as goal

pub returns-clause-fresh : goal.returns-clause-fresh
returns-clause-fresh c =
    let tail = c.in-Ok-open.ensures.0 in
    let none = c.in-Ok.ensures.0 in (
      λ i. record { t = 0; starts = c.args.starts; octets = tail i; next = May },
      none,
      seen_none _ _ c.in-Ok.octets.octets none,
    )
