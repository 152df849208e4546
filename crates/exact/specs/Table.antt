-- Sines and cosines to 24 digits, worked out elsewhere from the rule by exact fractions.
use Rattle.std.specs.Prelude.{List, [], ◌∷◌, ◌^◌, ℤ, pos, neg_ℤ}
use Rattle.exact.specs.Fraction.{Frac, whole, ◌over◌}
use Rattle.exact.specs.Distance.{Close}
use Rattle.exact.specs.Sine.{sine, cosine}

-- an argument, and its sine and cosine times 10²⁴
pub record Row : Type 0 where
  pub v : Frac
  pub s : ℤ
  pub c : ℤ

abbrev pub row : Frac → ℤ → ℤ → Row
row v s c = record { v = v; s = s; c = c }

-- x is n / 10²⁴ to the last digit
abbrev pub Reads : Frac → ℤ → Type 0
Reads x n = Close x (pos 1 over (10 ^ 24)) (n over (10 ^ 24))

abbrev pub AllRead : List Row → Type 0
AllRead [] = Unit {0}
AllRead (r ∷ rs) = Reads (sine r.v) r.s × Reads (cosine r.v) r.c × AllRead rs

abbrev pub table : List Row
table =
    row (whole (pos 0)) (pos 0) (pos 1000000000000000000000000)
    ∷ row (pos 1 over (10 ^ 12)) (pos 1000000000000) (pos 1000000000000000000000000)
    ∷ row (pos 1 over (2 ^ 30)) (pos 931322574615479) (pos 999999999999999999566319)
    ∷ row (pos 1 over 7) (pos 142371729792263667165272) (pos 989813260446615082695726)
    ∷ row (pos 1 over 3) (pos 327194696796152244173344) (pos 944956946314737664388284)
    ∷ row (pos 1 over 2) (pos 479425538604203000273288) (pos 877582561890372716116282)
    ∷ row (pos 3602879701896397 over (2 ^ 55)) (pos 99833416646828157830197) (pos 995004165278025765541375)
    ∷ row (pos 7 over 10) (pos 644217687237691053672614) (pos 764842187284488426255860)
    ∷ row (pos 392699 over 500000) (pos 707106665647094356668606) (pos 707106896725981813282799)
    ∷ row (pos 785399 over 1000000) (pos 707107372753637529199744) (pos 707106189618962612857930)
    ∷ row (whole (pos 1)) (pos 841470984807896506652502) (pos 540302305868139717400937)
    ∷ row (pos 11 over 10) (pos 891207360061435339951803) (pos 453596121425577387771370)
    ∷ row (pos 157 over 100) (pos 999999682931834620210530) (pos 796326710733325485409)
    ∷ row (pos 79 over 50) (pos 999957646498740052551794) (neg_ℤ (pos 9203543268808264805389))
    ∷ row (whole (pos 2)) (pos 909297426825681695396020) (neg_ℤ (pos 416146836547142386997568))
    ∷ row (pos 47 over 20) (pos 711473352790844422202491) (neg_ℤ (pos 702713076773553881347129))
    ∷ row (pos 59 over 25) (pos 704410765770176119431031) (neg_ℤ (pos 709792556362120548450363))
    ∷ row (whole (pos 3)) (pos 141120008059867222100745) (neg_ℤ (pos 989992496600445457271573))
    ∷ row (pos 22 over 7) (neg_ℤ (pos 1264488930377353400360)) (neg_ℤ (pos 999999200533552903268336))
    ∷ row (pos 355 over 113) (neg_ℤ (pos 266764189062419148)) (neg_ℤ (pos 999999999999964418433717))
    ∷ row (whole (pos 4)) (neg_ℤ (pos 756802495307928251372639)) (neg_ℤ (pos 653643620863611914639168))
    ∷ row (whole (pos 5)) (neg_ℤ (pos 958924274663138468893154)) (pos 283662185463226264466639)
    ∷ row (pos 549 over 100) (neg_ℤ (pos 712591628479961650571663)) (pos 701579055431585919185197)
    ∷ row (whole (pos 6)) (neg_ℤ (pos 279415498198925872811555)) (pos 960170286650366020545652)
    ∷ row (whole (pos 10)) (neg_ℤ (pos 544021110889369813404748)) (neg_ℤ (pos 839071529076452452258864))
    ∷ row (whole (pos 100)) (neg_ℤ (pos 506365641109758793656558)) (pos 862318872287683934101939)
    ∷ row (whole (pos 355)) (neg_ℤ (pos 30144353359488449214)) (neg_ℤ (pos 999999999545658980165936))
    ∷ row (whole (pos 710)) (pos 60288706691585265933) (pos 999999998182635921076595)
    ∷ row (whole (pos 999)) (neg_ℤ (pos 26460752737064126889851)) (pos 999649852980826458600455)
    ∷ row (whole (pos 1000)) (pos 826879540532002560255887) (pos 562379076290702991078249)
    ∷ row (whole (pos 1000000000)) (pos 545843449448699564244387) (pos 837887181363902334389776)
    ∷ row (whole (pos 1000000000000000)) (pos 858272793170235835523201) (neg_ℤ (pos 513193737786970252235683))
    ∷ row (neg_ℤ (pos 1) over 3) (neg_ℤ (pos 327194696796152244173344)) (pos 944956946314737664388284)
    ∷ row (whole (neg_ℤ (pos 1))) (neg_ℤ (pos 841470984807896506652502)) (pos 540302305868139717400937)
    ∷ row (whole (neg_ℤ (pos 2))) (neg_ℤ (pos 909297426825681695396020)) (neg_ℤ (pos 416146836547142386997568))
    ∷ row (whole (neg_ℤ (pos 3))) (neg_ℤ (pos 141120008059867222100745)) (neg_ℤ (pos 989992496600445457271573))
    ∷ row (whole (neg_ℤ (pos 4))) (pos 756802495307928251372639) (neg_ℤ (pos 653643620863611914639168))
    ∷ row (whole (neg_ℤ (pos 5))) (pos 958924274663138468893154) (pos 283662185463226264466639)
    ∷ row (whole (neg_ℤ (pos 100))) (pos 506365641109758793656558) (pos 862318872287683934101939)
    ∷ row (neg_ℤ (pos 9007199254740991) over (2 ^ 43)) (pos 158533380044108209154367) (pos 987353618219830272087863)
    ∷ []

abbrev pub TableReads : Type 0
TableReads = AllRead table
