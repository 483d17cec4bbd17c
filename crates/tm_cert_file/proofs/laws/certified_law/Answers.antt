use Rattle.std.proofs.Common.{[], ◌∷◌, ◌++◌, refl, sym, ap, subst, ◌∙◌, append_assoc}
use Rattle.std.proofs.Math.Path.{transport}
use Rattle.tm_viterbi.specs.Due.{Place, after_block}
use Rattle.tm_cert_file.specs.Certificate.{AreCertified}
use Rattle.tm_cert_file.proofs.ManyWindows.{there-closed, certified-exists, certificate-exists, certified-one, certified-longer}
use Rattle.tm_cert_file.proofs.laws.certified_law.Goals as goal

pub returns-clause-exists : goal.returns-clause-exists
returns-clause-exists c = certificate-exists c.columns_law.ensures.exists

pub returns-clause-first : goal.returns-clause-first
returns-clause-first c rate invert keep ahead from to blocks closed =
    certified-exists c.columns_law.ensures.exists rate invert from blocks
    (there-closed rate invert keep ahead from to blocks closed)

pub returns-clause-one : goal.returns-clause-one
returns-clause-one c = certified-one c.columns_law.ensures.one

pub returns-clause-append : goal.returns-clause-append
returns-clause-append c rate invert keep ahead from to [] rest text more closed are be =
    transport (λ i. AreCertified rate invert (sym closed i).starts (sym closed i).t (sym closed i).octets rest
    (sym are i ++ more)) be
returns-clause-append c rate invert keep ahead from to (block ∷ first) rest text more closed are be = (
  are.0,
  are.1 ++ more,
  are.2,
  returns-clause-append c rate invert keep ahead (after_block rate from block) to first rest are.1 more closed.1 are.3
      be,
  ap (λ v. v ++ more) are.4 ∙ append_assoc are.0 are.1 more,
)

pub returns-clause-split : goal.returns-clause-split
returns-clause-split c rate invert keep ahead from to [] rest whole closed are =
    ([], whole, refl, subst (λ (p : Place). AreCertified rate invert p.starts p.t p.octets rest whole) closed are, refl)
returns-clause-split c rate invert keep ahead from to (block ∷ first) rest whole closed are =
    let h = returns-clause-split c rate invert keep ahead (after_block rate from block) to first rest are.1 closed.1
    are.3 in (
      are.0 ++ h.0,
      h.1,
      (are.0, h.0, are.2, h.2, refl),
      h.3,
      are.4 ∙ ap (λ v. are.0 ++ v) h.4 ∙ sym (append_assoc are.0 h.0 h.1),
    )

pub returns-clause-longer : goal.returns-clause-longer
returns-clause-longer c rate invert keep ahead from to blocks more text closed are =
    certified-longer rate invert from blocks more text (there-closed rate invert keep ahead from to blocks closed) are
