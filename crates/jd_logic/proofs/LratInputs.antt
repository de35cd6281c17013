-- Inputs of the command `lrat` with the answers of a checker that was written apart, each by computing it.
-- scripts/lrat_inputs.py writes this file.
use Rattle.std.specs.Prelude.{[], ◌∷◌, ◌++◌, codes}
use Rattle.std.proofs.Common.{refl}
use Rattle.std.specs.Fmt.{digits}
use Rattle.jd_logic.specs.WorkedProofs.{Answers}

input_1 : Answers (codes "") (codes "bad line 1") 4
unfolding digits
input_1 = refl

input_2 : Answers (codes "\n") (codes "bad line 2") 4
unfolding digits
input_2 = refl

input_3 : Answers (codes " ") (codes "bad line 2") 4
unfolding digits
input_3 = refl

input_4 : Answers (codes "\n\n") (codes "bad line 3") 4
unfolding digits
input_4 = refl

input_5 : Answers (codes "c") (codes "bad line 2") 4
unfolding digits
input_5 = refl

input_6 : Answers (codes "c\n") (codes "bad line 2") 4
unfolding digits
input_6 = refl

input_7 : Answers (codes "p") (codes "bad line 1") 4
unfolding digits
input_7 = refl

input_8 : Answers (codes "p cnf") (codes "bad line 1") 4
unfolding digits
input_8 = refl

input_9 : Answers (codes "p cnf 0 0") (codes "not refuted") 9
unfolding digits
input_9 = refl

input_10 : Answers (codes "p cnf 0 0\n") (codes "not refuted") 9
unfolding digits
input_10 = refl

input_11 : Answers (codes "\np cnf 0 0") (codes "not refuted") 9
unfolding digits
input_11 = refl

input_12 : Answers (codes "p cnf 0 1\n0\n") (codes "refuted") 0
unfolding digits
input_12 = refl

input_13 : Answers (codes "p cnf 0 1\n0") (codes "refuted") 0
unfolding digits
input_13 = refl

input_14 : Answers (codes "p cnf 0 1\n0 0\n") (codes "bad line 2") 4
unfolding digits
input_14 = refl

input_15 : Answers (codes "p cnf 0 1\n1 0\n") (codes "bad line 2") 4
unfolding digits
input_15 = refl

input_16 : Answers (codes "p cnf 1 0\n0\n") (codes "bad line 2") 4
unfolding digits
input_16 = refl

input_17 : Answers (codes "p cnf 0 2\n0 0\n") (codes "refuted") 0
unfolding digits
input_17 = refl

input_18 : Answers (codes "p cnf 0 2\n0\n\n0\n") (codes "refuted") 0
unfolding digits
input_18 = refl

input_19 : Answers (codes "p cnf 0 1\n\n") (codes "bad line 3") 4
unfolding digits
input_19 = refl

input_20 : Answers (codes "p cnf 0 1") (codes "bad line 2") 4
unfolding digits
input_20 = refl

input_21 : Answers (codes "p cnf 0 1\nc 0\n") (codes "bad line 3") 4
unfolding digits
input_21 = refl

input_22 : Answers (codes "p cnf 0 1\n0\n2 0 1 0\n") (codes "refuted") 0
unfolding digits
input_22 = refl

input_23 : Answers (codes "p cnf 0 1\n0\n2 5 0 1 0\n3 d 1 0\n4 0 2 0\n") (codes "bad - 3 NoConflict") 9
unfolding digits
input_23 = refl

input_24 : Answers (codes "p cnf 0 1\n0\n2 d 1 0\n") (codes "refuted") 0
unfolding digits
input_24 = refl

input_25 : Answers (codes "p cnf 0 1\n0\n2 d 1 0\n3 0 1 0\n") (codes "bad - 2 NoClause 1") 9
unfolding digits
input_25 = refl

input_26 : Answers (codes "p cnf 0 1\n0\n1 0 1 0\n") (codes "bad - 1 IdOrder") 9
unfolding digits
input_26 = refl

input_27 : Answers (codes "p cnf 0 1\n0\n2 0 0\n") (codes "bad - 1 NoConflict") 9
unfolding digits
input_27 = refl

input_28 : Answers (codes "p cnf 0 0\n1 0 0\n") (codes "bad - 1 NoConflict") 9
unfolding digits
input_28 = refl

input_29 : Answers (codes "p cnf 0 0\n1 1 -1 0 0\n") (codes "bad - 1 NoConflict") 9
unfolding digits
input_29 = refl

input_30 : Answers (codes "p cnf 0 0\n1 d 0\n") (codes "not refuted") 9
unfolding digits
input_30 = refl

input_31 : Answers (codes "p cnf 0 0\n1 d 1 0\n") (codes "bad - 1 NoClause 1") 9
unfolding digits
input_31 = refl

input_32 : Answers (codes "p cnf 0 0\n0 d 0\n") (codes "bad line 2") 4
unfolding digits
input_32 = refl

input_33 : Answers (codes "p cnf 0 0\n1 0 1 0\n") (codes "bad - 1 NoClause 1") 9
unfolding digits
input_33 = refl

input_34 : Answers (codes "p cnf 0 0\n1 0 -1 0\n") (codes "bad - 1 RatLine") 9
unfolding digits
input_34 = refl

input_35 : Answers (codes "p cnf 1 1\n1 -1 0\n2 0 1 0\n") (codes "bad - 1 NotUnit 1") 9
unfolding digits
input_35 = refl

input_36 : Answers (codes "p cnf 1 1\n1 -1 0\n2 1 0 1 0\n") (codes "bad - 1 NoConflict") 9
unfolding digits
input_36 = refl

input_37 : Answers (codes "p cnf 1 1\n1 -1 0\n2 1 -1 0 1 0\n") (codes "not refuted") 9
unfolding digits
input_37 = refl

input_38 : Answers (codes "p cnf 1 1\n1 0\n2 1 -1 0 1 0\n") (codes "not refuted") 9
unfolding digits
input_38 = refl

input_39 : Answers (codes "p cnf 1 1\n1 0\n2 1 -1 0 0\n") (codes "bad - 1 NoConflict") 9
unfolding digits
input_39 = refl

input_40 : Answers (codes "p cnf 1 1\n-1 0\n2 1 -1 0 1 0\n") (codes "not refuted") 9
unfolding digits
input_40 = refl

input_41 : Answers (codes "p cnf 2 1\n1 2 0\n2 1 -1 0 1 1 1 0\n") (codes "bad - 1 NoConflict") 9
unfolding digits
input_41 = refl

input_42 : Answers (codes "p cnf 2 2\n1 1 0\n-1 -1 -1 0\n3 0 1 2 0\n") (codes "refuted") 0
unfolding digits
input_42 = refl

input_43 : Answers (codes "p cnf 2 2\n1 2 1 0\n-2 0\n3 1 1 0 2 1 0\n") (codes "not refuted") 9
unfolding digits
input_43 = refl

input_44 : Answers (codes "p cnf 2 1\n1 -1 2 0\n2 2 0 1 0\n") (codes "bad - 1 NotUnit 1") 9
unfolding digits
input_44 = refl

input_45 : Answers (codes "p cnf 2 1\n1 -1 2 0\n2 1 2 0 1 0\n") (codes "bad - 1 NoConflict") 9
unfolding digits
input_45 = refl

input_46 : Answers (codes "p cnf 2 1\n1 -1 2 0\n2 1 -1 2 0 1 0\n") (codes "not refuted") 9
unfolding digits
input_46 = refl

input_47 : Answers (codes "p cnf 3 2\n1 2 0\n1 3 0\n3 1 0 1 2 1 2 0\n") (codes "bad - 1 NoConflict") 9
unfolding digits
input_47 = refl

input_48 : Answers (codes "p cnf 2147483647 1\n2147483647 0\n") (codes "not refuted") 9
unfolding digits
input_48 = refl

input_49 : Answers (codes "p cnf 2147483648 0\n") (codes "bad line 1") 4
unfolding digits
input_49 = refl

input_50 : Answers (codes "p cnf 0 2147483648\n") (codes "bad line 1") 4
unfolding digits
input_50 = refl

input_51 : Answers (codes "p cnf 2147483647 2147483647\n") (codes "bad line 2") 4
unfolding digits
input_51 = refl

input_52 : Answers (codes "p cnf 2147483647 2\n-2147483647 0\n2147483647 0\n3 0 1 2 0\n") (codes "refuted") 0
unfolding digits
input_52 = refl

input_53 : Answers (codes "p cnf 1 1\n-2147483648 0\n") (codes "bad line 2") 4
unfolding digits
input_53 = refl

input_54 : Answers (codes "p cnf 1 1\n1 0\n2 2147483647 0 1 0\n") (codes "bad - 1 NoConflict") 9
unfolding digits
input_54 = refl

input_55 : Answers (codes "p cnf 1 1\n1 0\n2 2147483648 0 1 0\n") (codes "bad line 3") 4
unfolding digits
input_55 = refl

input_56 : Answers (codes "p cnf 1 1\n1 0\n2 -2147483648 0 1 0\n") (codes "bad line 3") 4
unfolding digits
input_56 = refl

input_57 : Answers (codes "p cnf 1 1\n1 0\n9223372036854775807 1 0 1 0\n") (codes "not refuted") 9
unfolding digits
input_57 = refl

input_58 : Answers (codes "p cnf 1 1\n1 0\n9223372036854775807 1 0 1 0\n9223372036854775807 1 0 1 0\n") (codes "bad - 2 IdOrder") 9
unfolding digits
input_58 = refl

input_59 : Answers (codes "p cnf 1 1\n1 0\n9223372036854775808 1 0 1 0\n") (codes "bad line 3") 4
unfolding digits
input_59 = refl

input_60 : Answers (codes "p cnf 1 1\n1 0\n2 1 0 9223372036854775808 0\n") (codes "bad line 3") 4
unfolding digits
input_60 = refl

input_61 : Answers (codes "p cnf 1 1\n1 0\n2 1 0 9223372036854775807 0\n") (codes "bad - 1 NoClause 9223372036854775807") 9
unfolding digits
input_61 = refl

input_62 : Answers (codes "p cnf 1 1\n1 0\n2 1 0 -9223372036854775807 0\n") (codes "bad - 1 RatLine") 9
unfolding digits
input_62 = refl

input_63 : Answers (codes "p cnf 1 1\n1 0\n2 1 0 -9223372036854775808 0\n") (codes "bad line 3") 4
unfolding digits
input_63 = refl

input_64 : Answers (codes "p cnf 1 1\n1 0\n2 1 0 18446744073709551617 0\n") (codes "bad line 3") 4
unfolding digits
input_64 = refl

input_65 : Answers (codes "p cnf 1 1\n1 0\n18446744073709551618 1 0 1 0\n") (codes "bad line 3") 4
unfolding digits
input_65 = refl

input_66 : Answers (codes "p cnf 1 1\n4294967297 0\n") (codes "bad line 2") 4
unfolding digits
input_66 = refl

input_67 : Answers (codes "p cnf 1 1\n1 0 c\n") (codes "bad line 2") 4
unfolding digits
input_67 = refl

input_68 : Answers (codes "p cnf 1 1\n1 0 2 1 0 1 0\n") (codes "bad line 2") 4
unfolding digits
input_68 = refl

input_69 : Answers (codes "p cnf 1 1 1 0\n") (codes "bad line 1") 4
unfolding digits
input_69 = refl

input_70 : Answers (codes "p cnf 1 1\n1\n0\n") (codes "not refuted") 9
unfolding digits
input_70 = refl

input_71 : Answers (codes "p cnf 1 1\n1\nc 5 0\n0\n") (codes "not refuted") 9
unfolding digits
input_71 = refl

input_72 : Answers (codes "p cnf 1 1\n1\nc\n\n\t\n0") (codes "not refuted") 9
unfolding digits
input_72 = refl

input_73 : Answers (codes "p cnf 1 2\n1 0 -1\n0\n3 0 1 2 0") (codes "refuted") 0
unfolding digits
input_73 = refl

input_74 : Answers (codes "p cnf 1 2\n1 0 -1\n0 3 0 1 2 0") (codes "bad line 3") 4
unfolding digits
input_74 = refl

input_75 : Answers (codes "p cnf 1 1\n1 0\n1 0\n") (codes "bad line 3") 4
unfolding digits
input_75 = refl

input_76 : Answers (codes "p cnf 1 1\n1 0\n2 d 1 0 0\n") (codes "bad line 3") 4
unfolding digits
input_76 = refl

input_77 : Answers (codes "p cnf 1 1\n1 0\n2 d 1\n") (codes "bad line 3") 4
unfolding digits
input_77 = refl

input_78 : Answers (codes "p cnf 1 1\n1 0\n2 d\n") (codes "bad line 3") 4
unfolding digits
input_78 = refl

input_79 : Answers (codes "p cnf 1 1\n1 0\nd 1 0\n") (codes "bad line 3") 4
unfolding digits
input_79 = refl

input_80 : Answers (codes "p cnf 1 1\n1 0\n2 d -1 0\n") (codes "bad line 3") 4
unfolding digits
input_80 = refl

input_81 : Answers (codes "p cnf 1 1\n1 0\n2 d 1 1 0\n") (codes "bad - 1 NoClause 1") 9
unfolding digits
input_81 = refl

input_82 : Answers (codes "p cnf 1 1\n1 0\n2 d 1 0\n2 d 1 0\n") (codes "bad - 2 NoClause 1") 9
unfolding digits
input_82 = refl

input_83 : Answers (codes "p cnf 1 1\n1 0\n2 d 0\n2 d 0\n") (codes "not refuted") 9
unfolding digits
input_83 = refl

input_84 : Answers (codes "p cnf 1 1\n1 0\n0 1 0 1 0\n") (codes "bad line 3") 4
unfolding digits
input_84 = refl

input_85 : Answers (codes "p cnf 1 1\n1 0\n-2 1 0 1 0\n") (codes "bad line 3") 4
unfolding digits
input_85 = refl

input_86 : Answers (codes "p cnf 1 1\n1 0\n2\n") (codes "bad line 3") 4
unfolding digits
input_86 = refl

input_87 : Answers (codes "p cnf 1 1\n1 0\n2 0\n") (codes "bad line 3") 4
unfolding digits
input_87 = refl

input_88 : Answers (codes "p cnf 1 1\n1 0\n2 0 0 0\n") (codes "bad line 3") 4
unfolding digits
input_88 = refl

input_89 : Answers (codes "p cnf 1 1\n1 0\n2 1 0 1\n") (codes "bad line 3") 4
unfolding digits
input_89 = refl

input_90 : Answers (codes "p cnf 1 1\n1 0\n2 1 0 1 0 0\n") (codes "bad line 3") 4
unfolding digits
input_90 = refl

input_91 : Answers (codes "p cnf 1 1\n1 0\n2 1 0 1 0 c\n") (codes "bad line 3") 4
unfolding digits
input_91 = refl

input_92 : Answers (codes "p cnf 1 1\n1 0\nc 2 1 0 1 0\n") (codes "not refuted") 9
unfolding digits
input_92 = refl

input_93 : Answers (codes "p cnf 1 1\n1 0\n 2 d 1 0 \r\n") (codes "not refuted") 9
unfolding digits
input_93 = refl

input_94 : Answers (codes "p cnf 1 1\r1 0\r2 1 0 1 0\r") (codes "bad line 1") 4
unfolding digits
input_94 = refl

input_95 : Answers (codes "p cnf 1 1\r\n1 0\r\n2 1 0 1 0\r\n") (codes "not refuted") 9
unfolding digits
input_95 = refl

input_96 : Answers (codes "P cnf 1 1\n1 0\n") (codes "bad line 1") 4
unfolding digits
input_96 = refl

input_97 : Answers (codes "p\tcnf\r1 1\n1 0") (codes "not refuted") 9
unfolding digits
input_97 = refl

input_98 : Answers (codes "p cnf 2 4\n1 2 0\n-1 2 0\n1 -2 0\n-1 -2 0\n5 2 0 1 2 0\n6 0 5 3 4 0\n") (codes "refuted") 0
unfolding digits
input_98 = refl

input_99 : Answers (codes "p cnf 2 4\n1 2 0\n-1 2 0\n1 -2 0\n-1 -2 0\n5 2 0 1 2 0\n6 0 5 3 0\n") (codes "bad - 2 NoConflict") 9
unfolding digits
input_99 = refl

input_100 : Answers (codes "p cnf 2 4\n1 2 0\n-1 2 0\n1 -2 0\n-1 -2 0\n5 2 0 1 2 0\n") (codes "not refuted") 9
unfolding digits
input_100 = refl

input_101 : Answers (codes "p cnf 2 4\n1 2 0\n-1 2 0\n1 -2 0\n-1 -2 0\n5 2 0 1 2 0\n5 d 1 2 0\n6 0 5 3 4 0\n") (codes "refuted") 0
unfolding digits
input_101 = refl

input_102 : Answers (codes "p cnf 2 4\n1 2 0\n-1 2 0\n1 -2 0\n-1 -2 0\n5 2 0 1 2 0\n5 d 1 2 0\n6 0 1 3 4 0\n") (codes "bad - 3 NoClause 1") 9
unfolding digits
input_102 = refl

input_103 : Answers (codes "p cnf 2 4\n1 2 0\n-1 2 0\n1 -2 0\n-1 -2 0\n5 2 0 -1 2 0\n") (codes "bad - 1 RatLine") 9
unfolding digits
input_103 = refl

input_104 : Answers (codes "p cnf 2 4\n1 2 0\n-1 2 0\n1 -2 0\n-1 -2 0\n4 2 0 1 2 0\n") (codes "bad - 1 IdOrder") 9
unfolding digits
input_104 = refl

input_105 : Answers (codes "p cnf 2 4\n1 2 0\n-1 2 0\n1 -2 0\n-1 -2 0\n5 2 0 1 2 -3 0\n") (codes "not refuted") 9
unfolding digits
input_105 = refl

input_106 : Answers (codes "p cnf 2 4\n1 2 0\n-1 2 0\n1 -2 0\n-1 -2 0\n5 2 0 1 2 9 -9 0\n6 0 5 3 4 7 0\n7 1 0 6 0\n8 d 6 0\n9 0 5 3 4 0\n10 0 6 0\n") (codes "bad - 6 NoClause 6") 9
unfolding digits
input_106 = refl

input_107 : Answers (codes "p cnf 2 4\n1 2 0\n-1 2 0\n1 -2 0\n-1 -2 0\n5 2 0 1 2 0\n6 0 5 3 4 0\n6 0 5 3 4 0\n") (codes "bad - 3 IdOrder") 9
unfolding digits
input_107 = refl

input_108 : Answers (codes "p cnf 2 4\n1 2 0\n-1 2 0\n1 -2 0\n-1 -2 0\n5 d 4 0\n5 2 0 1 2 0\n4 2 0 1 2 0\n") (codes "bad - 3 IdOrder") 9
unfolding digits
input_108 = refl

input_109 : Answers (codes "p cnf 2 4\n1 2 0\n-1 2 0\n1 -2 0\n-1 -2 0\n8 2 0 1 2 0\n9 d 8 0\n8 2 0 1 2 0\n") (codes "bad - 3 IdOrder") 9
unfolding digits
input_109 = refl

input_110 : Answers (codes "p cnf 2 4\n1 2 0\n-1 2 0\n1 -2 0\n-1 -2 0\n8 2 0 1 2 0\n9 d 8 0\n7 2 0 1 2 0\n") (codes "bad - 3 IdOrder") 9
unfolding digits
input_110 = refl

input_111 : Answers (codes "p cnf 2 4\n1 2 0\n-1 2 0\n1 -2 0\n-1 -2 0\n100 d 1 0\n5 -2 0 3 4 0\n") (codes "not refuted") 9
unfolding digits
input_111 = refl

input_112 : Answers (codes "p cnf 2 4\n1 2 0\n-1 2 0\n1 -2 0\n-1 -2 0\n5 0 1 2 3 4 0\n") (codes "bad - 1 NotUnit 1") 9
unfolding digits
input_112 = refl

input_113 : Answers (codes "p cnf 2 4\n1 2 0\n-1 2 0\n1 -2 0\n-1 -2 0\n5 2 0 1 1 2 0\n") (codes "not refuted") 9
unfolding digits
input_113 = refl

input_114 : Answers (codes "p cnf 2 4\n1 2 0\n-1 2 0\n1 -2 0\n-1 -2 0\n5 2 2 0 1 2 0\n") (codes "not refuted") 9
unfolding digits
input_114 = refl

input_115 : Answers (codes "p cnf 2 4\n1 2 0\n-1 2 0\n1 -2 0\n-1 -2 0\n5 2 0 2 1 0\n") (codes "not refuted") 9
unfolding digits
input_115 = refl

input_116 : Answers (codes "p cnf 2 4\n1 2 0\n-1 2 0\n1 -2 0\n-1 -2 0\n5 2 0 4 3 0\n") (codes "bad - 1 NotUnit 4") 9
unfolding digits
input_116 = refl

input_117 : Answers (codes "p cnf 2 4\n1 2 0\n-1 2 0\n1 -2 0\n-1 -2 0\n5 d 1 2 1 0\n") (codes "bad - 1 NoClause 1") 9
unfolding digits
input_117 = refl

input_118 : Answers (codes "p cnf 1 1\n1 -0\n2 1 0 1 0\n") (codes "bad line 2") 4
unfolding digits
input_118 = refl

input_119 : Answers (codes "p cnf 1 1\n1 0\n2 1 -0 1 0\n") (codes "bad line 3") 4
unfolding digits
input_119 = refl

input_120 : Answers (codes "p cnf 1 1\n1 0\n2 1 0 1 -0\n") (codes "bad line 3") 4
unfolding digits
input_120 = refl

input_121 : Answers (codes "p cnf 1 1\n1 0\n2 d 1 -0\n") (codes "bad line 3") 4
unfolding digits
input_121 = refl

input_122 : Answers (codes "p cnf 1 1\n1 00\n2 1 0 1 0\n") (codes "bad line 2") 4
unfolding digits
input_122 = refl

input_123 : Answers (codes "p cnf 1 1\n1 0\n2 1 00 1 000\n") (codes "bad line 3") 4
unfolding digits
input_123 = refl

input_124 : Answers (codes "p cnf 1 1\n1 0\n2 d 1 00\n") (codes "bad line 3") 4
unfolding digits
input_124 = refl

input_125 : Answers (codes "p cnf 01 001\n01 0\n02 1 0 01 0\n") (codes "bad line 1") 4
unfolding digits
input_125 = refl

input_126 : Answers (codes "p cnf -0 0\n") (codes "bad line 1") 4
unfolding digits
input_126 = refl

input_127 : Answers (codes "p cnf 2 4\n1 2 0\n-1 2 0\n1 -2 0\n-1 -2 0\n5 2 0 1 2 0\n6 0 5 3 4 0\n6 d 6 0\n") (codes "refuted") 0
unfolding digits
input_127 = refl

input_128 : Answers (codes "p cnf 2 4\n1 2 0\n-1 2 0\n1 -2 0\n-1 -2 0\n5 d 1 9 0\n5 2 0 1 2 0\n") (codes "bad - 1 NoClause 9") 9
unfolding digits
input_128 = refl

input_129 : Answers (codes "p cnf 2 4\n1 2 0\n-1 2 0\n1 -2 0\n-1 -2 0\n5 2 0 1 2 0 \n\tc 6\n\n6 0 5 3 0\n") (codes "bad - 2 NoConflict") 9
unfolding digits
input_129 = refl

input_130 : Answers (codes "p cnf 8 4 \n\r2\r3  2 \t\r 1 0 \nc\r\n\n2 0   \n-1 2 3 0 \n-3 1 0 \n\n9 d 0 \n") (codes "not refuted") 9
unfolding digits
input_130 = refl

input_131 : Answers (codes "cp cnf 1 1\np cnf 2 1\n-1 -2 0\n\t c\n \n2 -1 0 0\n\t 3 1  1\r1 \t\r 0\r2\r2\t2 2 2\r2\r0 \n4 -1 0 0\n5 \t\r -2  2 -1 \t\r 0 2\r2 3\t1\t0\nc\n1 \t\r d 1\t0\n") (codes "bad - 1 NoConflict") 9
unfolding digits
input_131 = refl

input_132 : Answers (codes "p cnf 3 3\t\r \n-1 -2 -3 0\t\r \n1\t-2 \t\r -3\t0\t\r \n-1 2 -3 0\t\r \n4 -2 2 3  0 4 \t\r 4 \t\r 4  5\t2\t3 0 \t\r \n6 d 4 3 0\t\r ") (codes "bad - 1 NoClause 4") 9
unfolding digits
input_132 = refl

input_133 : Answers (codes "p cnf 2147483647 0\r\n7 d 1 0\r\n1 2 2 0 -1 1 9223372036854775807 1 -1 0\r\n2 2 -4 4 0 1 1 1 0\r\n5 d 2 0\r\n3 0 1 1 1 0\r\n4 2 0 0\r\n5 d 2 0\r\n") (codes "bad - 1 NoClause 1") 9
unfolding digits
input_133 = refl

input_134 : Answers (codes "p cnf 10 6\n1 0\n-1 2 0\n-2 3 0\n-3 4 0\n-4 5 0\n-5 0\nc end 0\n7 0 6 5 4 1 3 2 0\n8 3 -1 4 0 2 3 0\n") (codes "refuted") 0
unfolding digits
input_134 = refl

input_135 : Answers (codes "p cnf 2 3\nc " ++ (0 ∷ []) ++ (255 ∷ []) ++ (254 ∷ []) ++ codes "\n1 0 2 0 -2 -1 0\n\t 190 -1 2\t0 2  0\n1123 -2 0 3 3 1 0\nc " ++ (0 ∷ []) ++ (255 ∷ []) ++ (254 ∷ []) ++ codes "\n1768 2 1 0 2 0\n2186  2\t0\t2 0\n \n2484\t0\r1123  2 \t\r 0\nc " ++ (0 ∷ []) ++ (255 ∷ []) ++ (254 ∷ []) ++ codes "\nc\r\n") (codes "refuted") 0
unfolding digits
input_135 = refl

input_136 : Answers (codes " p\rcnf\t2 \t\r 4\r\n-1 -2 0\r\n1 -2 -2 0\r\n-1 2 0\r\n1 2 0\r\n5 -2 1 0 2 0\r\n6 1 0 4 2 0\r\n\r7 d\r6 \t\r 0\r\n6 1 0 4 2 0\r\n7 0 6 3 1 -9223372036854775807 1 0\r\n8 1 -2 123456 0 6 0\r\n") (codes "bad - 4 IdOrder") 9
unfolding digits
input_136 = refl

input_137 : Answers (codes "p cnf 2 1\t\r \n-1 -2 0\t\r \n2 0 9223372036854775807 1 1 1 0\t\r \n3 2 -2 2 0 0\t\r \n4 -1 -2 2 0 3 0\t\r \n5 0 -1 2 0\t\r \n3 d 5 2 0\t\r \n") (codes "bad - 1 NoClause 9223372036854775807") 9
unfolding digits
input_137 = refl

input_138 : Answers (codes "p cnf 1 5\n-1 0 1 0 1 0 1 0 1 0\n6 1 0 4 0") (codes "not refuted") 9
unfolding digits
input_138 = refl

input_139 : Answers (codes "p cnf 1 1\n\r-1  0  \n2 -1 -2147483647 0 1 0\n40 d 2 0\n") (codes "not refuted") 9
unfolding digits
input_139 = refl

input_140 : Answers (codes "p\tcnf 4\t0\t\n\t c\n\n4294967297 0 1 -1 2 1 -1 -1 0\nc\r\n2 -1 2 0 1 1 0\n\t 3\r0 1  1\t0\n4 0 1 0\nc 1 2 0\n5 -3 -4 3 0 0\nc comment\n6 -1 0 0\n") (codes "bad - 1 NoClause 1") 9
unfolding digits
input_140 = refl

input_141 : Answers (codes "p cnf 6 9\n-1 -4\n-3 -5 0\n6 -5 0 -5 -3 6 1 0 2 -5 -3 0 -3\n2 1 -6 0 5 2\n-4 0 6 -1 2\n-5 0 -5 -5\n4 0 -5 1\n0\n10 -2 -5 -3 0 2 8 1 9 0\n13 -6 -3 -5 123456 0 4 10 0\n") (codes "not refuted") 9
unfolding digits
input_141 = refl

input_142 : Answers (codes "p cnf 5 3\r\n4 5 0\r\n-4 0 3\r\nc end 0\n5\r\n2 0\r\n4 2 -4 0 2 0\r\n5 5 3 -2 0 1 2 0\r\n\t 1 \t\r d\t2 \t\r 3 \t\r 1\t0\r\n6 2 -4 0 4 -9223372036854775807 10 1 0\r\n") (codes "not refuted") 9
unfolding digits
input_142 = refl

input_143 : Answers (codes "p cnf 4 16 \n-1 2 -3 -4 0 \n-1 2 -3 4 0 \n-1 -2 3 4 0 \n1 -2 3 -4 0 \n-1 2 3 -4 0 \n1 -2 -3 4 0 \n-1 2 3 4 0 \n1 2 -3 4 0 \n1 -2 -3 -4 0 \n1 2 3 -4 0 \n1 -2 3 4 0 \n-1 -2 3 -4 0 \n1 2 3 4 0 \n1 2 -3 -4 0 \n-1 -2 -3 4 0 \n-1 -2 -3 -4 0 \n754 -4 1 -3 0 9 14 0 \n1240 -4 1 0 754 4 10 0 \n1446 -4 -1 2 0 5 1 0 \n2074 -4 -1 0 1446 16 12 0 \n3067 -4 0 1240 2074 0 \n3085 4 1 -3 0 8 6 0 \n3222 4 1 0 3085 13 11 0 \n4141 4 -1 2 0 7 2 0 \n4492 4 -1 0 4141 3 15 0 \n4818 4 0 3222 3222 4141 15 3 0 \n5294 0 3067 4492 -4818 0 ") (codes "bad - 11 RatLine") 9
unfolding digits
input_143 = refl

input_144 : Answers (codes "c1 2 0 3 0\ncp cnf 1 1\np cnf 5 7\t\r \n-2 -4 0\t\r \n\t c\n-3 0\t\r \ncp cnf 1 1\n\r1  -3\t2\t5 0\t\r \n\r\n-2 0\t\r \nc1 2 0 3 0\n3  0\t\r \n5 -1 0\t\r \nc end 0\n-5 0\t\r \n7 \t\r d  7\r6\t0 \t\r \n8 0 2 5 0\t\r \n\t c\n") (codes "refuted") 0
unfolding digits
input_144 = refl

input_145 : Answers (codes "p cnf 6 10\n1 2 0\n-6 -2 0\n-6 -4 0\n-5 -3 0\n-3 -1 0\n-4 -2 0\n3 4 0\n5 6 0\n-5 -1 0\n3 4 0\n11 -2 3 0 2 10 8 9 6 0\n12 1 0 1 11 2 8 4 0\n13 0 12 5 7 3 8 6 9 0\n") (codes "refuted") 0
unfolding digits
input_145 = refl

input_146 : Answers (codes "p cnf 4 16\nc 1 2 0\n -1  -2 -3 \t\r -4\r0\n1 -2 -3 -4 0\n-1 2 -3 -4 0\n1 2 -3 -4 0\n-1 -2 3 -4 0\n1 -2 3 -4 0\n-1 2 3 -4 0\n1 2 3 -4 0\n-1 -2 -3 4 0\n1 -2 -3 4 0\n-1 2 -3 4 0\n1 2 -3 4 0\n \t\r\n-1 -2 3 4 0\n1 -2 3 4 0\n-1 2 3 4 0\n1 2 3 4 0\n17 -2 4 -1 0 26 9 0\n18 -2 4 0 17 10 14 0\n19 -2 -4 1 0 6 2 0\n20 -2 -4 0 19 5 1 0\n21 -2 0 20 18 0\n22 2 -1 3 0 7 15 0\n23 2 -1 0 22 11 3 0\n24 4 0 18 23 16 12 0\n25 2 1 -3 0 4 24 0\n26 2 1 0 25 16 8 0\n27 2 0 24 23 8 25 -3 18 31 0\n28 0 24 20 26 23 0\n") (codes "bad - 1 NoClause 26") 9
unfolding digits
input_146 = refl

input_147 : Answers (codes "p cnf 1000 9\n-4 -1 0\n-3 5 1 0\n-4 1 0\n1 3 4 0\n4 2 -1 0\n5 -4 0\n3 1 -4 0\n-2 -3 5 -4 0\n5 -1 -3 4 0\n") (codes "not refuted") 9
unfolding digits
input_147 = refl

input_148 : Answers (codes "p cnf 4 5\n-4\n1\n0\n1\n3\n2\n-4\n0\n-1\n0\n-3\n-2\n-1\n0\n-4\n-2\n3\n1\n0\n576 1 0 3 0\n833 1 -4 0 1 0\n1596 -4 -3 0 576 833 0\n9223372036854775807 d 5 0\n49 d 2 1596 576 0") (codes "bad - 1 NoConflict") 9
unfolding digits
input_148 = refl

input_149 : Answers (codes "p cnf 4 5\n1 0\n-1 2 0\n-4 0\n-3 4 0\n-2 3 0\n6 1 -2 0 1 0\n7 -2 4 3 0 5 0\n8 4 0 1 2 5 4 0\n9 -2 1 3 0 6 0\n1 d 1 2 3 4 5 0\n10 4 0 1 2 5 4 0\n") (codes "bad - 6 NoClause 1") 9
unfolding digits
input_149 = refl

input_150 : Answers (codes "p cnf 5 2\t\r \n-5\t\r \n\n\t 2  \t\r \n-3\t\r \n0\t\r \n \t\r\n-2\t\r \nc 1 2 0\n4\t\r \n0\t\r \n\t 20  d 1 0\t\r \n") (codes "not refuted") 9
unfolding digits
input_150 = refl

input_151 : Answers (codes "p cnf 2 7\n1\n2 0 -2 0 -2 -1 0\n1\n-2 0 -2 -1 0 1 2 0 1 0\n1 d 3 0\n1 d 3 0\n9 1 0 4 6 0\n12 -1 -2 0 2 0\n") (codes "bad - 2 NoClause 3") 9
unfolding digits
input_151 = refl

input_152 : Answers (codes "p cnf 12 3\t\r \n4 5 6 0\t\r \n-10 -4 0\t\r \n-8 -5 0\t\r \n\r4  4\t-3\t0  0  \t\r \n\n") (codes "bad - 1 NoConflict") 9
unfolding digits
input_152 = refl

input_153 : Answers (codes "p cnf 1 5\r\n1 0 1 0 1 0 1 0 -1 0\r\n6 -1 0 5 0\r\n7 1 0 4 0\r\n8 0 6 7 0\r\n") (codes "refuted") 0
unfolding digits
input_153 = refl

input_154 : Answers (codes "p cnf 2 3\t\r \n2 0\t\r \n1 0\t\r \n-2 -1 0\t\r \n4 1 2 0 1 0\t\r \n5 2 -1 0 99 0\t\r \n6 0 1 3 2 0\t\r \n") (codes "bad - 2 NoClause 99") 9
unfolding digits
input_154 = refl

input_155 : Answers (codes "p cnf 7 0\n1 3 -4 0 9223372036854775807 -1 9223372036854775807 0\n") (codes "bad - 1 NoClause 9223372036854775807") 9
unfolding digits
input_155 = refl

input_156 : Answers (codes "p cnf 3 5\r\n-3 -2 1 0\r\n-2 1 3 0\r\n-3 -1 0\r\n-3 -2 -1 0\r\n-3 -1 -2 0\r\n6 -1 1 3 0 3 3 6 6 0\r\n7 -3 1 2 0 1 3 3 0\r\n") (codes "bad - 1 NoClause 6") 9
unfolding digits
input_156 = refl

input_157 : Answers (codes "p cnf 1 2\n-1 0\n1 0\n7 d 1 0\n522396690362 1 0 2 0\n908882483792 0 522396690362 522396690362 1 0\n") (codes "bad - 3 NoClause 1") 9
unfolding digits
input_157 = refl

input_158 : Answers (codes "p cnf 2 5\n-2 -1 0 -2 -1 0 0 -2 -1 0 1 -2\n0\n\n6 -1 0 2 3 0\n7 1 0 5 3 0\n8 2 1 -1 0 6 0\n9 -1 -2 0 2 0\n10 0 6 7 0\n") (codes "refuted") 0
unfolding digits
input_158 = refl

input_159 : Answers (codes "p cnf 3 8\r\n-1 -2 -3 0 1 -2 -3 0\r\n-1 2\r\n-3 0 1 2 -3 0 -1 -2 3 0\r\n1 -2 3 0 -1 2 3 0 1 2 3\r\n0\r\n19903421124 1 -2 0 2 6 0\r\n188585885696 1 0 19903421124 4 8 0\r\n9223372036854775807 d 2 0\r\n933148985295 -1 -2 0 1 1 5 0\r\n1657160679558 -1 0 933148985295 3 7 0\r\n2110337482888 0 2110337482888 188585885696 0\r\n1 d 1 2 3 4 5 6 7 8 0\r\n") (codes "bad - 6 NoClause 2110337482888") 9
unfolding digits
input_159 = refl

input_160 : Answers (codes " \n p  cnf\r2147483647  2\ncnf\n\n2147483647 \t\r 0\r\nc 1 2 0\n-2147483647 0\n\t 25 \t\r d\t5 \t\r 0\n5 2147483647 2147483647 0 1 0\n6 0 2 5 0\n") (codes "bad - 1 NoClause 5") 9
unfolding digits
input_160 = refl

input_161 : Answers (codes "p cnf 4 16\r\n-1 -2 3 4 0\r\n-1 -2 -3 -4 0\r\n1 -2 -3 -4 0\r\n1 -2 3 -4 0\r\n-1 2 3 4 0\r\n1 2 -3 4 0\r\n-1 -2 3 -4 0\r\n-1 2 3 -4 0\r\n1 -2 3 4 0\r\n-1 2 -3 4 0\r\n-1 2 -3 -4 0\r\n1 2 3 -4 0\r\n1 2 3 4 0\r\n1 -2 -3 4 0\r\n-1 -2 -3 4 0\r\n1 2 -3 -4 0\r\n1091641450515 2 -1 -3 0 11 11 10 0\r\n1714158160173 2 -1 0 1091641450515 8 5 0\r\n2349895286249 2 1 3 0 13 12 0\r\n2949971509882 2 1 0 2349895286249 16 6 0\r\n2950218407541 2 0 2949971509882 1714158160173 0\r\n49 d 8 0\r\n4034659798852 -2 -1 3 0 7 1 0\r\n5095744737595 -2 -1 0 4034659798852 2 15 0\r\n86 d 14 0\r\n5654076491555 -2 1 3 0 4 9 0\r\n83 d 2950218407541 0\r\n") (codes "not refuted") 9
unfolding digits
input_161 = refl

input_162 : Answers (codes "p cnf 0 1\n0\n2 5 0 1 0\n3 d 1 0\n4 0 2 0\n\r") (codes "bad - 3 NoConflict") 9
unfolding digits
input_162 = refl

input_163 : Answers (codes "p cnf 5 3\n\t\n\rc\n\rc\n1 -5 0 1 3 -2 0 0\nc\n3 3 0 -2 2 2 2 -1 2 0\nc" ++ (11 ∷ []) ++ codes "\n") (codes "bad - 1 IdOrder") 9
unfolding digits
input_163 = refl

input_164 : Answers (codes "p cnf 4 5\r\n-2 3 0\r\n-1 2 0\r\n-4 0\r\n-3 -3 4 0\r\n1 0\r\n6 -1 2 0 2 5 0\r\n7 -4 -2 0 1 3 0\r\n \t\r\n\r8 \t\r 2  1  0 \t\r 5 \t\r 0 \r\n5 -4 -1 0 7 2 0\r\n\r\n10 0 3 4 1 2 5 0\r\n") (codes "bad - 4 IdOrder") 9
unfolding digits
input_164 = refl

input_165 : Answers (codes "p cnf 4 16\n1 2 3 -4 0\n1 -2 -3 4 0\n1 -2 -3 -4 0\n-1 2 -3 4 0\n-1 -2 3 -4 0\n-1 -2 -3 4 0\n1 -2 3 -4 0\n-1 -2 3 4 0\n1 2 -3 4 0\n1 2 -3 -4 0\n-1 2 3 -4 0\n1 -2 3 4 0\n1 2 3 4 0\n-1 -2 -3 -4 0\n-1 2 -3 -4 0\n-1 2 3 4 0\n") (codes "not refuted") 9
unfolding digits
input_165 = refl

input_166 : Answers (codes "p cnf 2 5\n1\n-2\n0\n1\n2\n0\n-1\n2\n0\n-1\n-2\n0\n-1\n2\n0\n6 1 2 0 2 0\n7 2 1 0 2 0\n8 2 -1 0 5 0\n9 -1 0 5 4 3 0\n13 d 9 0\n8 -1 0 5 4 3 0\n") (codes "bad - 6 IdOrder") 9
unfolding digits
input_166 = refl

input_167 : Answers (codes "c " ++ (0 ∷ []) ++ (255 ∷ []) ++ (254 ∷ []) ++ codes "\np cnf 2 4 \n-1 -2 0 \n1 -2 0 \n-2 0 \n1 1 -2 0 \n289458439175 1 -2 0 3 0 \n652640944670 -2 -1 0 1 0 \n908659117951 -2 1 0 4 0 \n2905142076457 \t\r -2 0\t1 289458439175 \t\r 0 \n1886658585402 1 -2 0 2 0 \n\r\n2905142076457 -2 0 1 289458439175 0 \n") (codes "bad - 5 IdOrder") 9
unfolding digits
input_167 = refl

input_168 : Answers (codes "p cnf 6 8\n-4\n5 0 -1 2 0\n-2\n3 0\n-5 6 0\n-3\n4 0 -6 0 1\n0\n-1 2 0\n297575765591 1 0 6 7 0\n329162610959 3 0 7 8 3 0\n329162610960 3 0 7 8 3 0") (codes "not refuted") 9
unfolding digits
input_168 = refl

input_169 : Answers (codes "c\r\np cnf 3 6 \t\r \t\r \nc 1 2 0\n-1 \t\r -2\r3 \t\r 0\t\r \n1 2 -3 0\t\r \n-1 \t\r 2  -3 \t\r 0\t\r \n1  2  3\r0\t\r \ncnf\n1 -2 3 0\t\r \n-1 2 3 0\t\r \n4 \t\r d \t\r 6\t1\t0\t\r \nc " ++ (0 ∷ []) ++ (255 ∷ []) ++ (254 ∷ []) ++ codes "\n") (codes "not refuted") 9
unfolding digits
input_169 = refl

input_170 : Answers (codes "c\np cnf 3 2\n \t\r\n1 -2 3 0\n\t -1 \t\r 0  \n\t 3 \t\r 3 0\t2 1 \t\r 2 2\r-2 0\n c note\n\r4\t-2 \t\r -3\t-2 \t\r 0\t3  3 3 3 \t\r 0\r\ncnf\n   cut\n5 d 1 0\n\rc\nc " ++ (0 ∷ []) ++ (255 ∷ []) ++ (254 ∷ []) ++ codes "\n5 3 2 0  0\r\n6 -1 0 3 2 3 5 0\n") (codes "bad - 1 RatLine") 9
unfolding digits
input_170 = refl

input_171 : Answers (codes "c\r\n\t c\np\rcnf \t\r 11 \t\r 2 \n3\t4   \n5 \t\r 0 \n5 6 -2 0 \n c note\n\r \nc1 2 0 3 0\nc " ++ (0 ∷ []) ++ (255 ∷ []) ++ (254 ∷ []) ++ codes "\nc comment\n3 2 -3 4 0 1 9223372036854775807 3 1 0 \nc" ++ (11 ∷ []) ++ codes "\n6 d 1 0 \n8 d 2 0 \n\r3\r2 -3 4  0 1\t9223372036854775807 3  1  0\t \ncomment\nc1 2 0 3 0\n4 d 3 0 \n\n4 -4 -2 0 0 ") (codes "bad - 1 NotUnit 1") 9
unfolding digits
input_171 = refl

input_172 : Answers (codes "p cnf 1 2\n1 0 -1 0\n3 0 99 0\n") (codes "bad - 1 NoClause 99") 9
unfolding digits
input_172 = refl

input_173 : Answers (codes "p cnf 2 10\n1 -2 0\n1 -2 0\n-1 -2 0\n1 -2 0\n-1 -2 0\n2 -1 0\n1 2 0\n-2 -1 0\n-2 1 0\n1 1 -2 0\n11 -1 0 5 6 0\n12 0 11 9 7 0\n13 -2 1 0 9 0\n") (codes "refuted") 0
unfolding digits
input_173 = refl

input_174 : Answers (codes "p cnf 2 2 \n2 -1 0 \n2 -1 0 ") (codes "not refuted") 9
unfolding digits
input_174 = refl

input_175 : Answers (codes "p cnf 1 2 \nc\n1 0 \n1\t0  \n3 1 0 2 0 \n") (codes "not refuted") 9
unfolding digits
input_175 = refl

input_176 : Answers (codes "p cnf 6 6\r\n-1 -3 0 3 4\r\n-2 0\r\n\r\n3\r\n 1 0  3\r1 \t\r 0 -5 0 \t\r 3 -2 0  \r\nc 6 0 5 3 4 0\n\r7 1 2\t-3\r-4 -5  0\r5\r0\r\n7\rd\r5 1\r3  0\r\nc comment\n7 d 5 1 3 0\r") (codes "bad - 3 NoClause 5") 9
unfolding digits
input_176 = refl

input_177 : Answers (codes "p cnf 3 9\t\r \n1 2 -3 0 -1 -2 -3 0 1 -2 -3 0\t\r \n-1 -3\t\r \n2 -3 0 1 2 3 0\t\r \n-1 -2\t\r \nc " ++ (0 ∷ []) ++ (255 ∷ []) ++ (254 ∷ []) ++ codes "\n3 0\t\r \n-1 2 3 0 1 -2 3\t\r \n0 0\t\r \n9 -2 -1 3 0 6 0\t\r \n10 2 -3 -1 0 4 0\t\r \n\t\n11 -1 3 0 6 7 0\t\r \n 12  -1 0 \t\r 11\r2 10 0  \t\r \n13 1 2 0 5 1 0\t\r \n14 1 0 13 3 8 0\t\r \n15 0 14 11 10 12 0\t\r \n") (codes "bad - 1 IdOrder") 9
unfolding digits
input_177 = refl

input_178 : Answers (codes "c 6 0 5 3 4 0\n\nc " ++ (0 ∷ []) ++ (255 ∷ []) ++ (254 ∷ []) ++ codes "\np\tcnf 3  9\r\n2 -3 0\r\n\t\n\t 1  0\r\n\r\n-2 -3 1 0\r\n\r2\r0 \t\r \r\n\r\n3 -2 1 0\r\n-2 -3 1 0\r\n\rc\n1 -2 0\r\n-3 -2 -1 0\r\nc end 0\n \n-2 -3 1 0\r\n4294967296 -1 2 0 4 0\r\n") (codes "not refuted") 9
unfolding digits
input_178 = refl

input_179 : Answers (codes "p cnf 3 0\n1 -1 1 -1 0 -1 1 1 0\n2 2 3 1 0 1 1 1 1 0\n6 d 2 0\n3 -3 3 1 0 1 0\n4 -3 0 5 0\n5 -2 2 0 4 0") (codes "bad - 1 RatLine") 9
unfolding digits
input_179 = refl

input_180 : Answers (codes "p cnf 2 0\n\n1 -1 1 2 0 -1 9223372036854775807 -1 1 0\n") (codes "bad - 1 RatLine") 9
unfolding digits
input_180 = refl

input_181 : Answers (codes "p cnf 5 20\t\r \n-5 3 0\t\r \n\r3\t5 0\t\r \n\r-3\t5 4\r0\t\r \n1 4 -3 -2 0\t\r \n\t -1 0\t\r \n1 -2 3 0\t\r \n4 -1 0\t\r \n4 -3 -5 -2 0\t\r \n1 0\t\r \n-2 0\t\r \n\rc\n\r2 0 \t\r \t\r \n\t 4\r0\r\t\r \n-3 1 0\t\r \n\r-1\t-3\r2 0\t\r \n3 -1 4 0\t\r \n1 3 2 0\t\r \n-5 4 3 0\t\r \n-4 -2 0\t\r \n-1 -3 2 0\t\r \n-1 -3 0\t\r \n21 -1 -3 -2 0 5 0\t\r \n22 -4 0 9 4294967297 5 0\t\r \n") (codes "bad - 2 NoClause 4294967297") 9
unfolding digits
input_181 = refl

input_182 : Answers (codes "p cnf 5 4 \n1 -5 0 -5 2 0 3 -5 0 3 5 -1 0 \n5 -3 -1 2 0 2 4 0 \n6 3 0 3 3 5 4 0 \n7 0 99 0 \n8 3 2 0 6 2 2 0 \n") (codes "bad - 1 NoConflict") 9
unfolding digits
input_182 = refl

input_183 : Answers (codes "p cnf 7 9 \n1 \n0 \n-1 \n2 \n0 \n-2 \n3 \n0 \n-3 \n4 \n0 \n-4 \n5 \n0 \n-5 \n6 \n0 \n-6 \n7 \n0 \n-7 \n0 \n0 \n436731085490 -6 -5 0 8 7 0 \n1295009790989 -7 -4 -3 0 5 436731085490 6 0 \n1741978506269 0 1 8 7 6 5 4 3 2 0 \n") (codes "refuted") 0
unfolding digits
input_183 = refl

input_184 : Answers (codes "p \t\r cnf\r3 2  \n0 \nc1 2 0 3 0\n0\n \t\r\n3 -1 1 0 1 1 0\nc\n\nc 1 2 0\n4 -3 -1 0 3 0\n5 0 4 5 1 0") (codes "bad - 2 NoConflict") 9
unfolding digits
input_184 = refl

input_185 : Answers (codes "p cnf 2147483647 8 \n-1 -2 3 0 \n1 2 3 0 \n1 2 -3 0 \n-1 -2 -3 0 \n1 -2 3 0 \n1 -2 -3 0 \n-1 2 3 0 \n-1 2 -3 0 \n11 -2 -1 0 4 1 0 \n12 -1 0 11 7 8 0 \n13 1 3 0 5 2 0 \n15 1 0 13 6 3 0 \n17 0 12 13 3 15 0 \n1 d 1 2 3 4 5 6 7 8 0 \n") (codes "refuted") 0
unfolding digits
input_185 = refl

input_186 : Answers (codes "p cnf 6 0\n\n1 -3 -3 0 1 9223372036854775807 -1 -1 0\n2 -2 0 1 1 0\n3 0 1 1 1 2 2 0\n4 -3 -3 3 0 3 0\n") (codes "bad - 1 NoClause 1") 9
unfolding digits
input_186 = refl

input_187 : Answers (codes "p cnf 1 2\r\n-1 0\r\n1 0\r\n3 0\r2 1 0\r\n8 d 4294967297 0\r\n") (codes "bad - 2 NoClause 4294967297") 9
unfolding digits
input_187 = refl

input_188 : Answers (codes "p cnf 2 4\t\r \n c note\n1\t\r \n-2\t\r \n0\t\r \n-2\t\r \n1\t\r \n0\t\r \n2\t\r \n \t\r\n-1\t\r \n0\r\t\r \n1\t\r \n0\t\r \n5 1 -1 0 4 0\t\r ") (codes "not refuted") 9
unfolding digits
input_188 = refl

input_189 : Answers (codes "c1 2 0 3 0\np  cnf 6 7\r\r\n\r-2\t1  -6\t5  0\r\n -1 \t\r -3\t6 -4\r0 \r\n-5 -6 -3 0\r\n\rc\n -6 \t\r 0\r\nc 6 0 5 3 4 0\n-3 0\r\n6\t-4\r0  \r\n2 -1 0\r\n\r8\r5\t-3  4 0\t5  0  \r\n") (codes "not refuted") 9
unfolding digits
input_189 = refl

input_190 : Answers (codes "p cnf 1 2\t\r \n-1\t\r \n0\t\r \n1\t\r \n0\t\r \n3 -1 0 1 0\t\r \n4 -1 0 3 0\t\r \n5 1 0 2 0\t\r \n6 -1 0 1 0\t\r \n1 d 2 0\t\r \n1 d 2 0\t\r \n7 0 3 5 0\t\r ") (codes "bad - 6 NoClause 2") 9
unfolding digits
input_190 = refl

input_191 : Answers (codes "\rp \t\r cnf\t3 6\r\n\nc end 0\n2 -3 0\r\n\r-3 1\t-2\t0\r\n3 -2 1 0\r\n 2\t3\t1  0\r\nc" ++ (11 ∷ []) ++ codes "\ncnf\n\t -3\r2  1  0\r\n-1 -3 0\r\nc\ncp cnf 1 1\n93 d 6 3 2 3 0\r") (codes "bad - 1 NoClause 3") 9
unfolding digits
input_191 = refl

input_192 : Answers (codes "p cnf 4 1 \n-1 -2 -3 0 ") (codes "not refuted") 9
unfolding digits
input_192 = refl

input_193 : Answers (codes "p cnf 3 12\t\r \n-1 2 0\t\r \n-2 1 3 0\t\r \n2 0\t\r \nc 1 2 0\n \t\r\n-1 -3 2 0\t\r \n2 -1 0\t\r \n-1 -2 3 0\t\r \n-3 -1 -2 0\t\r \ncomment\n-2 1 3 0\t\r \n 2  1  -3 0  \t\r \n\rc\n\r1 -3 \t\r 0 \t\r \t\r \n   cut\n3 2 -1 0\t\r \n-3 -1 0\t\r \n13  2\r3 1 \t\r 0\t3\t0  \t\r \n14 -1 2 0 12 1 0\t\r \n \t\r\ncomment\n15 -1 0 5 12 6 0\t\r \n16 0 3 15 8 10 0\t\r \n17 -1 0 5 12 6 0\t\r \nc\r\nc 6 0 5 3 4 0\n") (codes "refuted") 0
unfolding digits
input_193 = refl

input_194 : Answers (codes "p cnf 1 3\r\n-1 0\r\n1 0\r\n1 0\r\n9 d 5 0\r\n4 1 0 3 9223372036854775807 -9223372036854775807 1 0\r\n5 -1 0 1 0\r\n6 1 0 4 0\r\n7 -1 0 5 0\r\n8 0 5 2 0\r\n") (codes "bad - 1 NoClause 5") 9
unfolding digits
input_194 = refl

input_195 : Answers (codes "p cnf 6 9\n-5 -1 0\n-6 -4 0\n1 2 0\n-4 -2 0\n-6 -2 0\n-3 -1 0\n3 4 0\n-5 -3 0\n5 6 0\n308820181123 5 -1 -2 0 6 7 4 0\n462986476600 -6 0 2 7 5 3 7 6 0\n548365569905 5 0 9 1269749502289 0\n1269749502289 -3 0 548365569905 8 0\n1704261681716 0 548365569905 8 1 3 7 4 0") (codes "bad - 3 NoClause 1269749502289") 9
unfolding digits
input_195 = refl

input_196 : Answers (codes "p cnf 3 9\n-1 2 3 0\n1 2 3 0\n-1 -2 -3 0\n1 2 -3 0\n1 -2 3 0\n-1 2 -3 0\n-1 -2 3 0\n1 -2 -3 0\n1 2 -3 0\n601403569365 1 -2 0 8 5 0\n1583485197928 1 0 601403569365 4 2 0\n2592502928119 -1 3 0 1 7 0\n2668698853778 -1 0 2592502928119 3 6 0\n2836263368342 0 1583485197928 2668698853778 0\n2836263368343 -1 0 9223372036854775807 0\n") (codes "bad - 6 NoClause 9223372036854775807") 9
unfolding digits
input_196 = refl

input_197 : Answers (codes "p cnf 5 22\n2 -1 -4 0\n2 3 4 0\n-3 4 1 2 0\n-5 -3 -1 0\n-3 -4 1 0\n5 4 0\n1 5 -2 0\n5 2 -1 0\n3 -2 -1 0\n3 1 2 0\n-3 0\n-1 4 3 0\n-2 5 -3 0\n2 0\n2 1 5 0\n-1 -2 -4 0\n2 3 -1 0\n-4 -1 -3 0\n-5 3 -4 0\n4 2 -1 0\n-4 1 -5 0\n-3 -1 4 -5 0\n23 3 5 0 14 6 16 7 0\n24 -1 0 14 9 11 0\n25 4 -3 1 0 11 0\n26 1 3 -2 -4 0 19 7 0\n27 -1 0 15 0") (codes "bad - 5 NotUnit 15") 9
unfolding digits
input_197 = refl

input_198 : Answers (codes "p cnf 5 23\n4 3 0\n-3 -4  0\t5  -1 \t\r 4 3 0\r-4\r-3 \t\r -5 0 \n-5 0 2 -4 -1 -5\n0\n-2 -3 1 0 -2 4 0\n\t 1 -2\t\n-4 0 4 2\n0 -1 5 0 -5 -3\n4 0 4 3 -2 1 0 4 -3 5 0\n-2 3\n0 -5 2 -4\n0 2 -4 1 -3\n0 5\n-3\n1 0 1\n0 3 -5\n4 0 -1 -4 0 4 3 -1 0\n-3 2\n0\n\n24 -2 3 2 0 15 9223372036854775807 0\nc" ++ (11 ∷ []) ++ codes "\n25 -1 -5 0 5 0\n26 -4 3 0 5 11 19 0\n27 0 19 21 8 10 0\n") (codes "refuted") 0
unfolding digits
input_198 = refl

input_199 : Answers (codes "p cnf 12 22\n-6 -3 0 -7 -4 0 10 11 12 0 -5\n-2\n0 -4 -1 0 -10 10 -4 0 -11 -2 0 -9 -6 0 -10 -1 0 -8 -2\n0 -9 -3 0 -12 -3 0 -12 -6 0\n1\n2 3\n0 -12 -9 0\n -11\t-5\t0\t-10  -7  0 -8 \t\r -5 \t\r \nc 6 0 5 3 4 0\n0 -7 -1 0 7 8 9 0 -11\n-8 0 4 5 6 0\n23 -6 -6 1 0 1 14 7 10 13 4 8 20 2 17 3 0\n24  8 -6\t0  13 8 \t\r 20\r2\r17\t3\t16 19 \t\r 7 \t\r 1\t14 \t\r 0\n25 8 6 1 2 0 14 11 20 17 12 3 16 22 2 0\n26 8 6 1 -2 -3 0 7 11 20 12 3 17 0\n27 8 6 1 -2 3 -4 -5 0 7 2 20 4 0\n28 -6 0 1 23 19 9 5 24 10 18 21 3 15 13 0\n29 8 6 1 -2 3 -4 5 -7 0 7 2 0\n") (codes "not refuted") 9
unfolding digits
input_199 = refl

input_200 : Answers (codes "c\n\t p cnf 2 5\r \n-1  -2\t0 \n1 2 0 \n-1  0 \n1 -2 0 \n\t c\n-2 1 0 \n6 2 0 3 2 0 \n7 \t\r 2\t-2 -1  0\t3 0\t \n\t\n8 1 -2 0 4 0 \n9 -2 -1 0 1 6 0 \n") (codes "not refuted") 9
unfolding digits
input_200 = refl

input_201 : Answers (codes "p cnf 3 4\r\n-1\r\n2\r\n3\r\n0\r\n0\r\n1\r\nc end 0\n-2\r\n0\r\n2\r\n0\r\n\rc\n 836\t-2 3 \t\r -1 \t\r 0 2  0\r\n1509 -1 -1 0 2 0\r\n2313 2 1 -3 0 4 0\r\n2354 0 1509 2 0\r\n") (codes "refuted") 0
unfolding digits
input_201 = refl

input_202 : Answers (codes "p cnf 6 7 \n-5 \n6 \n0 \n1 \n0 \n-4 \n5 \n0 \n-6 \n0 \n-2 \n3 \n0 \n-3 \n4 \n0 \n-1 \n2 \n0 \n8 0 0 \n1 d 1 7 2 0 \n") (codes "bad - 1 NoConflict") 9
unfolding digits
input_202 = refl

input_203 : Answers (codes "p cnf 4 0\n\r1 \t\r 2 -2\r0 1\t-1\r1 -1\r2 0\r\n 2\rd 1 0\n2 0 9223372036854775807 0\n3 2 0 0\n   cut\n7 d 9223372036854775807 0\n4  0  0\nc 1 2 0") (codes "bad - 1 NoClause 1") 9
unfolding digits
input_203 = refl

input_204 : Answers (codes "p cnf 2 2 \n-1 0 \n1 0 \n3 -1 1 0 1 1 1 1 0 \n\t\n4 -1 1 0 1 1 1 1 0 \ncp cnf 1 1\n") (codes "not refuted") 9
unfolding digits
input_204 = refl

input_205 : Answers (codes "p cnf 6 11 \n-2 0 \n2 5 1 0 \n3 0 \n-3 -1 -6 0 \n5 0 \n1 4 -3 -5 0 \n2 5 6 0 \n2 6 3 0 \n6 4 2 0 \n-5 -3 -2 -6 0 \n2 4 0 \n13 3 0 3 0 \n14 -3 6 -1 -2 0 1 0 \n17 -3 6 -1 2 4 0 11 0 \n") (codes "not refuted") 9
unfolding digits
input_205 = refl

input_206 : Answers (codes "p cnf 3 4\t\r \n-2 3 0\t\r \n1 0\t\r \n-3 0\t\r \n\r-1 2\t0 \t\r \n5 1 -2 -2147483647 0 0\t\r \n6 1 0 2 0\t\r \n7 -2 3 1 0 -6 0\t\r \n8 -3 -2 0 2 3 0\t\r \n\r30 \t\r d\r0  \t\r \n9 0 6 4 1 3 0\t\r \nc") (codes "bad - 1 NoConflict") 9
unfolding digits
input_206 = refl

input_207 : Answers (codes " p cnf 3 10 \n3 \n\t c\n1 2 0 -2 0 2 -3 1 0 3 -1 0 3 2 1 0 2 1 0 1 0 2 3 0 \n-1 \n-3 \n 0  -1 \t\r  \n-2 \n0 \nc 6 0 5 3 4 0\n11 0 2 7 4 9 0 \n") (codes "refuted") 0
unfolding digits
input_207 = refl

input_208 : Answers (codes "p cnf 3 8\r\n-1 -2 -3\r\n0 1 -2\r\n-3 0\r\n-1\r\n2\r\n-3 0 1\r\n2 -3\r\n0 -1 -2\r\n3 0 1\r\n-2 3\r\n0 -1\r\n2 3\r\n0\r\n1 2 3 0\r\n9 1 -3 0 2 4 0\r\n10 2 3 0 8 7 0\r\n11 1 3 0 8 6 9 0\r\n12 -1 2 3 0 10 0\r\n13 -1 -2 0 5 1 0\r\n14 -1 0 13 3 12 0\r\n15 0 14 9 11 0\r\n") (codes "refuted") 0
unfolding digits
input_208 = refl

input_209 : Answers (codes "\r\n p cnf\r4 0 \n1 -2 0 9223372036854775807 0 \n2 0 1 1 1 1 1 1 0 \n3 -3 1 0 2 0 \n5 2 -1 2 0 0 \n\t 4 \t\r -1 3\t3 0  2\t0 \n6 -3 0 3 3 4 5 4 0 \n") (codes "bad - 1 NoClause 9223372036854775807") 9
unfolding digits
input_209 = refl

input_210 : Answers (codes "p cnf 3 4\r\n-3 1 2 0\r\n-3 -2 -1 3 0\r\n-2 1 -3 0\r\n2 1 3 0\r\n1 d 1 2 3 4 0\r\n") (codes "not refuted") 9
unfolding digits
input_210 = refl

input_211 : Answers (codes "\np cnf 7 0 \ncnf\n\t c\n1 -1 0 1 0 \n\t\n") (codes "bad - 1 NoClause 1") 9
unfolding digits
input_211 = refl

input_212 : Answers (codes "p cnf 7 21\n3 0\n4 3 0\n-7 1 -5 -2 0\n-4 -3 5 1 0\n-7 -4 1 -3 0\n-1 5 0\n-6 -4 0\n-7 3 0\n7 1 0\n-3 6 0\n3 -1 0\n-4 0\n7 -1 0\n-1 -3 0\n3 6 0\n5 -3 0\n-7 6 0\n7 -3 2 0\n-7 -5 -3 -2 0\n-4 -3 -2 0\n-2 3 0\n23 1 -2 0 9 3 16 21 0\n26 1 2 3 0 2 7 15 0\n28 1 2 -3 4 5 0 16 0\n29 7 0 1 18 23 14 0\n31 1 2 -3 4 -5 6 0 9 17 0\n32 1 2 -3 4 -5 -6 7 0 29 0") (codes "not refuted") 9
unfolding digits
input_212 = refl

input_213 : Answers (codes "p cnf 6 11\t\r \n-4 2 0\t\r \n-2 -5 0\t\r \n1 -4 0\t\r \n-6 5 0\t\r \n-6 3 -5 0\t\r \n4 0\t\r \n6 -2 5 0\t\r \n5 1 0\t\r \n   cut\n-2 -4 -6 -5 0\t\r \n2 6 5 -1 0\t\r \n-3 1 5 0\t\r \n12 -1 -3 -5 0 2 1 6 0\t\r \n13 -1 0 6 6 1 2 4 7 0\t\r \n14 -5 0 2 13 1 6 0\t\r \n15\t5\r-2 -3\r0 \t\r 11 \t\r 6 13 0\t\r \n16 0 -2147483648 13 8 6 2 1 0\t\r \n") (codes "bad - 5 RatLine") 9
unfolding digits
input_213 = refl

input_214 : Answers (codes "p cnf 7 24 \n-4 -1 \n2 \n0 -5 -1 \n2 0 -2 0 \n1 3 4 \n0 -1 0 -3 2 \n4 0 \n-6 -5 \n-3 -4 \n0 5 4 -7 0 7 \n-5 0 -6 -3 -5 0 -2 \n0 \n-3 7 \n2 6 \n0 -3 0 -1 \n7 \n-6 0 \n6 \n0 4 \n6 \n0 \n-3 6 1 0 1 \n0 \n5 \n-7 0 -6 3 5 -7 0 \n-4 -6 0 -5 \n-4 \n0 -1 \n-2 \n1 0 1 \n5 0 \n844 4 -1 0 5 0 \n1005 -3 -2 -5 0 9 13 0 \n1712 0 13 15 5 18 0 \n2647 6 1 3 0 4 1712 0 \n") (codes "refuted") 0
unfolding digits
input_214 = refl

input_215 : Answers (codes "p cnf 1 3\t\r \n 1\t\r \ncomment\nc" ++ (11 ∷ []) ++ codes "\ncnf\n0\t\r \n   cut\ncp cnf 1 1\nc end 0\n-1\t\r \n0\t\r \ncnf\n\t c\nc\r\n-1\t\r \n0\t\r \n\t c\n4 -1 0 3 0\t\r \n5 -1 0 3 0\t\r \n6 0 1 4 0\t\r \n") (codes "refuted") 0
unfolding digits
input_215 = refl

input_216 : Answers (codes "c comment\np cnf 2147483647 5\r\n-2147483647\r\n-2147483646\r\n0 \r\n2147483647\r\nc\n-2147483646\r\n0\r\n\r-2147483647\r\r\n-2147483646\r\nc " ++ (0 ∷ []) ++ (255 ∷ []) ++ (254 ∷ []) ++ codes "\ncp cnf 1 1\n0\r\n-2147483647\r\ncnf\n-2147483646\r\n0\r\ncp cnf 1 1\n2147483647\r\nc\n\t -2147483646 \r\n 0\r\n") (codes "not refuted") 9
unfolding digits
input_216 = refl

input_217 : Answers (codes "p cnf 4 8 \n\r-1\r-2\t3  0\t1\t-2\r-3 0 \t\r -1\t2\r3\t0\r-1 2\t-3\t0\r-1 -2 -3 \t\r 0 \t\r 1 \t\r 2 3\t0 1\t-2 \t\r 3\t0 1  2 \t\r -3\t0 \ncnf\nc end 0\n") (codes "not refuted") 9
unfolding digits
input_217 = refl

input_218 : Answers (codes "p cnf 6 29\t\r \n2 5 0\t\r \n2 0\t\r \n5 -3 4 0\t\r \n5 6 0\t\r \n-1 6 4 -5 0\t\r \n-5 -1 2 0\t\r \n-5 -2 3 -1 0\t\r \n-1 4 -3 0\t\r \n2 4 -3 0\t\r \n6 -2 0\t\r \n4 -6 2 0\t\r \n2 0\t\r \n5 6 0\t\r \n3 1 0\t\r \n-4 -1 6 0\t\r \n-6 -5 3 0\t\r \n-2 6 0\t\r \n4 6 2 -3 0\t\r \n2 3 0\t\r \n-3 -4 5 0\t\r \n3 1 -2 0\t\r \n-6 2 0\t\r \n-6 3 -4 0\t\r \n-2 -1 0\t\r \n6 2 5 -3 0\t\r \n-1 -4 2 -3 0\t\r \n3 1 5 0\t\r \n2 -5 0\t\r \n2 -6 5 0\t\r \n30 3 -5 4 0 14 5 24 30 2 0\t\r \n31 -1 0 12 10 24 0\t\r \n") (codes "bad - 1 NoClause 30") 9
unfolding digits
input_218 = refl

input_219 : Answers (codes "p cnf 5 8\n-4 -3 0\n2 4 3 0\n3 -1 0\n-4 2 0\n3 -1 0\n3 -4 -2 -1 0\n2 4 3 0\n4 2 3 0") (codes "not refuted") 9
unfolding digits
input_219 = refl

input_220 : Answers (codes "p cnf 12 22\n1 2 3 0\n4 5 6 0\n7 8 9 0\n10 11 12 0\n-4 -1 0\n-7 -1 0\n-7 -4 0\n-10 -1 0\n-10 -4 0\n-10 -7 0\n-5 -2 0\n-8 -2 0\n-8 -5 0\n-11 -2 0\n-11 -5 0\n-11 -8 0\n-6 -3 0\n-9 -3 0\n-9 -6 0\n-12 -3 0\n-12 -6 0\n-12 -9 0\n") (codes "not refuted") 9
unfolding digits
input_220 = refl

input_221 : Answers (codes "p cnf 3 2\n\t -3\t2  0\t\n3 1 0\n3 2 -3 3 0 2 2 2 2 2 1 0\ncp cnf 1 1\n4 -1 2 0 1 3 3 -3 1 3 0\n5 0 1 0\n6 -2 1 2 0 0\ncomment\n\t c\n\n7 -3 3 -2 0 0\n8 0 0\n") (codes "bad - 2 RatLine") 9
unfolding digits
input_221 = refl

input_222 : Answers (codes "p cnf 10 4\n-4 -2 1 0\n-4 -3 -1 0\n1 -5 1 0\n3 5 -1 0\n5 0 2 0\n6 -4 -4 0 5 0\n") (codes "bad - 1 NotUnit 2") 9
unfolding digits
input_222 = refl

input_223 : Answers (codes "p cnf 3 1 \n1 \n2 \n3 \n0 \n2 0 1 1 1 0 \n3 1 1 0 2 0 \n") (codes "bad - 1 NotUnit 1") 9
unfolding digits
input_223 = refl

input_224 : Answers (codes "p cnf 4 17\n-1 -2 -3 -4 0\n1 -2 -3 -4 0\n-1 2 -3 -4 0\n1 2 -3 -4 0\n-1 -2 3 -4 0\n1 -2 3 -4 0\n-1 2 3 -4 0\n1 2 3 -4 0\n-1 -2 -3 4 0\n1 -2 -3 4 0\n0\n-1 2 -3 4 0\n1 2 -3 4 0\n-1 -2 3 4 0\n1 -2 3 4 0\n-1 2 3 4 0\n1 2 3 4 0\n4 d 8 0\n") (codes "refuted") 0
unfolding digits
input_224 = refl

input_225 : Answers (codes "p cnf 6 28\n-1 0 -1 4 0\n-2 -5 0 5 4 -1 0 -6 4\n-5 0 2\n0\n4 -1 0 -5 6 4 0 1\n-3\n-4 0 5\n-4 0 3 4 -2 0 6 -4 0 -1 6 0\n4 5 0 -6\n3 5\n0 -1 3 0 6 3 5 0 2 -3\n0 1\n2 6 0 -1 -1 -3 0 2 -1 0 1 -6 3 0 -6 -4 0\n2 3\n0\n4 5 0 -4 6\n-1 5 0\n6 1\n-3 0 -3\n-5\n0\n74 1 -4 0 9 24 12 9 15 3 0\n425 2 0 18 16 19 22 0\n527 -6 0 10 25 3 425 0\n") (codes "bad - 3 NotUnit 10") 9
unfolding digits
input_225 = refl

input_226 : Answers (codes " \t\r\n\t\np cnf 2 4\n1 2\n0 -2 1\n0 1 -2 0 1 2 0\n \t\r\n5 1 1 0 4 4 3 0\n \n6 \t\r 1 2\t0\r1 0 \t\r \n\r\n7 2 1 0 4 0\n8 -2 1 0 3 0\n") (codes "not refuted") 9
unfolding digits
input_226 = refl

input_227 : Answers (codes "p cnf 2147483647 4\n-1 -2 -2 0\n1 -2 0\n-1 1 2 1 0\ncomment\n1 2 0\n5 2 -3 0 4 3 3 3 4 0\n3 d 2 0\n6 0 5 3 0\n7 2 1 2 0 0\n8 0 6 0\n") (codes "bad - 1 NoConflict") 9
unfolding digits
input_227 = refl

input_228 : Answers (codes "p cnf 2147483647 2\t\r \n-1 0 1 0\t\r \n3 0 1 2 0\t\r ") (codes "refuted") 0
unfolding digits
input_228 = refl

input_229 : Answers (codes "p cnf 2147483647 0\t\r \n\t\r \n1 -4 1 -4 0 0\t\r \n2 2 3 0 1 1 1 0\t\r \n3 -3 -2 0 2 2 3 0\t\r \n4 4 0 1 2 2 0\t\r \n21 d 4 0\t\r \n") (codes "bad - 1 NoConflict") 9
unfolding digits
input_229 = refl

input_230 : Answers (codes "p cnf 5 18\n2\n1\n3 0 -2 3 0 1 -3 -5\n0 -2 1 4\n5 0\n-1 -2 0 -4 -5 1 0\n-4 -5\n-2 0\n1\n5\n0 -4\n0\n-3 -5 4\n0\n-2 0 -4\n-3 2\n0 3 4 0\n5\n-4 0\n-5\n-4 -2 0\n3 2 0 5 -4 2\n0 -4 -5 -2 0\n\n19 -1 -3 -2 0 5 0\n20 -1 -3 2 -4 0 17 17 12 0\n21 -1 -3 2 4 -5 0 10 0\n1 d 1 2 3 4 5 6 7 8 9 10 11 12 13 14 15 16 17 18 0\n22 -1 -3 2 -4 0 17 17 12 0\n") (codes "bad - 5 NoClause 17") 9
unfolding digits
input_230 = refl

input_231 : Answers (codes "p cnf 2147483647 0\t\r \n") (codes "not refuted") 9
unfolding digits
input_231 = refl

input_232 : Answers (codes "p cnf 2 4\r\n-1\r\n2 0 -2\r\n0 0 1\r\n0\r\nc note\r\n5 -1 0 1 2 0\r\n6 1 0 3 0\r\n7 -2 -2 0 3 0\r\n8 -2 0 7 0\r\n9 0 3 0\r\n") (codes "refuted") 0
unfolding digits
input_232 = refl

input_233 : Answers (codes "comment\np\tcnf\r4  5\n\t -1 \t\r 1\r0\n-1 2 0\n-2 \t\r 3 0\n-3 4 0\n-4 0\n6 3 3 4 0 3 4 3 4 0") (codes "bad - 1 NoConflict") 9
unfolding digits
input_233 = refl

input_234 : Answers (codes "p cnf 3 6\r\n-1\r\n3 0 3 2 0 -1 3 0 -1 2 0 1 3\r\n0 -2 3 0\r\n6 d 3 0\r\n7 1 1 1 0 0\r\n6 d 2 0\r\n8 -3 1 3 0 0\r\n26 d 1 0\r\n9 3 2 2 0 6 4 8 1 0\r\n9 d 4 0\r\n") (codes "bad - 2 NoConflict") 9
unfolding digits
input_234 = refl

input_235 : Answers (codes "p cnf 4 4\n2 -1 0\n-2 -1 -3 0\n-1 1 0\n-1 2 -3 0\n5 -3 0 4 9223372036854775807 2 2 2 6 0\n6 -2 -2 0 0\n7 -3 0 6 4 1 4 0\n8 -3 0 0\n") (codes "bad - 1 NotUnit 4") 9
unfolding digits
input_235 = refl

input_236 : Answers (codes "p cnf 1 4 \n1 0 -1 0 -1 0 1 0 \n5 0 4 3 0 \n") (codes "refuted") 0
unfolding digits
input_236 = refl

input_237 : Answers (codes "p cnf 1000 26\n-6 4 0 5 0 3\n1 0 -6 5 -7 0 -6\n0\n 1 -4\n0 -4\n1 0 -3 -4\n7 0\n1 -2\n-6 0 -5 -4 0 5 4\nc comment\n-7\n0 3 -1 0 4 -6 0\n-5\n2 0 3\n6 0\n-7 5 0\n2 1 -3\n0 5 -3 -7\n0\n-3 7 0 -2 -1\n7 0 5\n-1 7 0\n1 2 0 -4 -2 0 -6 5 0 4 -5 1 0 -7 -5 4 1\n0\n\n26 d 1 4 0\n27 -1 -3 6 2 0 19 16 10 14 0\n28 -1 -3 6 -2 -4 0 19 10 16 0\n1 d 10 0\n") (codes "not refuted") 9
unfolding digits
input_237 = refl

input_238 : Answers (codes "p cnf 3 8\n 1 \t\r -2\t-3  0 \t\r 1\n2 3 0 1 2 -3 0 -1\n2\n-3\n0\n-1 2 3 0 -1\n-2 3 0 -1\n-2 -3 0 1 -2 3 0\n32 1 3 0 8 2 0\n   cut\n690 1 0 32 3 1 0\n1133 -1 2 0 4 5 0\n1518 -1 0 1133 7 6 0\n1972 0 1518 690 0") (codes "refuted") 0
unfolding digits
input_238 = refl

input_239 : Answers (codes "p cnf 3 8\r\n1\r\ncnf\n   cut\n -2 -3\t0 -1 2  3 \r\n0\r\n-1 -2 -3 0 1 -2\r\n\t 3  -3\t0  1 2 \t\r -3  0\t\r\n-1 2 -3 0 -1 -2 3 0 1 2\r\n3\r\n0\r\n\r9 1 3\t2\r0 8\t0 \r\nc1 2 0 3 0\n11 1 2 0 8 5 9 0\r\n") (codes "not refuted") 9
unfolding digits
input_239 = refl

input_240 : Answers (codes "p cnf 2147483647 0\n1 -2 -2 0 -1 1 1 0\n2 3 0 0\n3 -1 4 -2 0 1 0\n") (codes "bad - 1 RatLine") 9
unfolding digits
input_240 = refl

input_241 : Answers (codes "p \t\r cnf\t3 \t\r 5\r\n-3 2 0\r\ncp cnf 1 1\n\t -2 0  \r\nc\r\ncnf\n-1 0 \r\n-2 -2 1 3 0\r\n c note\n-1 3 -2 0\r\n6 0 3 3 3 0\r\n5 d 1 0\r\ncomment\n7 0 2 9223372036854775807 3 0\r\n43\td 6 \t\r 0\r\n") (codes "bad - 1 NoConflict") 9
unfolding digits
input_241 = refl

input_242 : Answers (codes "\t c\np cnf 7 9\t\r \n-3 4 0 -4 5 0 -2 3 0 -5 6 0 -7 0 -6 7 0 1 1 0 -1 2 0 -7 0\t\r \nc1 2 0 3 0\n\rc\nc1 2 0 3 0\n10 0 0\t\r \n") (codes "bad - 1 NoConflict") 9
unfolding digits
input_242 = refl

input_243 : Answers (codes "c\np cnf 2 4\r\n\n \nc " ++ (0 ∷ []) ++ (255 ∷ []) ++ (254 ∷ []) ++ codes "\n1 -2 0\r\n-1  2\t0\r\r\n1 2 0\r\n\r-1 -2\t0\r\n5 1 -2 0 1 0\r\n6  1\t2\r0 \t\r 3 0\r\r\n7 -2 0 4 0\r\n8 -1 0 2 7 0\r\n") (codes "bad - 3 NoConflict") 9
unfolding digits
input_243 = refl

input_244 : Answers (codes "p cnf 3 8\n \n\r-1\t2\r3 0 1 -2  -3\t0 \t\r 1\t-2 3\r0  -1\t-2  -3  0\r1 2 -3 0 \t\r 1\t2  3\t0\r-1 -2\t3 0 \t\r -1 \t\r 2\r-3  0\r\n9 1 2 0 5 9 -9223372036854775807 -3 0\n11 1 0 9 3 2 0\n12 -1 -3 0 8 4 0\n\t 15 \t\r -1 0 12  7 1 0\r\n16 0 15 9 3 2 0\nc1 2 0 3 0\n") (codes "bad - 1 NoClause 9") 9
unfolding digits
input_244 = refl

input_245 : Answers (codes "p cnf 3 4\n1 0\n-1 2 0\n-2 3 0\n-3 0\n\r5  0\r1\t4 \t\r 3 2  9 \t\r 0") (codes "refuted") 0
unfolding digits
input_245 = refl

input_246 : Answers (codes "p cnf 1000 4 \n-1 -2 \n0 \n1 -2 0 -1 2 \n 0  1 2  0 \n5 1 0 9223372036854775807 0 \n") (codes "bad - 1 NoClause 9223372036854775807") 9
unfolding digits
input_246 = refl

input_247 : Answers (codes "p cnf 7 6\n1 2 0\n-4 -2 0\n-3 -1 0\n-5 -1 0\n-6 -4 0\n\t\n3 4 0\n7 -2 0 0\n8 -2 2 -4 0 2 0\n9 -4 1 0 8 1 8 8 -8 0\n10 0 3 7 7 1 0\n5 d 2 0\n5 d 5 0\n") (codes "bad - 1 NoConflict") 9
unfolding digits
input_247 = refl

input_248 : Answers (codes "p cnf 3 0\r\n\r\n1 3 0 0\r\n2 -3 -2 3 0 1 0\r\n3 -3 0 1 1 1 1 1 2 0\r\n4 -3 0 3 0\r\n7 d 1 0\r\n1 d 0\r\n") (codes "bad - 1 NoConflict") 9
unfolding digits
input_248 = refl

input_249 : Answers (codes "p cnf 2 1\t\r \n-1 -2\t\r \n0\t\r \n22 d 42949067297 0\t\r \n") (codes "bad - 1 NoClause 42949067297") 9
unfolding digits
input_249 = refl

input_250 : Answers (codes "p cnf 4 0 \n1 3 0 0 \n\t\n 2\t-4 \t\r 3 \t\r 0 \t\r 1\t0 \n7 d 2 0 \n3 0 1 1 1 1 0 \n\r8 d 3 \t\r 1  0 \n4 1 0 5 5 1 5 -3 0 \n") (codes "bad - 1 NoConflict") 9
unfolding digits
input_250 = refl

input_251 : Answers (codes "p cnf 4 0\n9 d 9223372036854775807 0\n1 0 2 9223372036854775807 0\n30 d 1 0\n2 0 2 9223372036854775807 0\n") (codes "bad - 1 NoClause 9223372036854775807") 9
unfolding digits
input_251 = refl

input_252 : Answers (codes "p cnf 6 7\n1 0\n-1 6 2 0\n-2 3 0\n-3 4 0\n-4 5 0\n-5 6 0\n-6 0\n8 0 1 7 6 5 2 3 4 0\n") (codes "refuted") 0
unfolding digits
input_252 = refl

input_253 : Answers (codes "p cnf 11 0\r\n\r\n18 d 0\r\n1 -1 -3 0 0\r\n2 -1 0 1 1 1 1 1 0\r\n3 3 0 2 2 2 2 2 1 0\r\n1 d 1 0\r\n") (codes "bad - 2 NoConflict") 9
unfolding digits
input_253 = refl

input_254 : Answers (codes "p cnf 4 15\n-2\n1 -4 0\n2 3 4 1\n\t 0\t-4 -3\t2 \t\r 0 -4  0 -3 2\t-4  0 3\t-1\r0 -3  \n-1 2\n0 -3 -1 0 3 1 2 0 2 4 0\n-3 -2 0 3 -1\n2 0\n-4\n-3 1 0 3 0 -2 -3 0\n\t 1082646716025\r0\r4  10 \t\r 11 16\t6 14\t0\t\n1082646716025 0 4 10 11 16 6 14 0\n\n") (codes "bad - 1 NoClause 16") 9
unfolding digits
input_254 = refl

input_255 : Answers (codes "p\tcnf 2 4 \n-1 2 0\n1 2 0\n-1 -2 0\n1 -2 0\ncnf\n5 2 1 2 0 2 0\n6 2 1 0 4 2 0\n7 0 4 9223372036854775807 2 3 0\n8 1 0 -7 0\n9 1 0 0\n") (codes "bad - 3 NotUnit 4") 9
unfolding digits
input_255 = refl

input_256 : Answers (codes "p cnf 2 3\n1 1 0\n\n\t\n-1 2 2 0\n-2 0\n4 1 2 0 4 3 2 0\n7 d 4 2 0\n") (codes "bad - 1 NoClause 4") 9
unfolding digits
input_256 = refl

input_257 : Answers (codes "p cnf 3 4 \n\t 1  0\r \n-1 2 0 \n-2 3 0 \nc\r\n-3 0 \n4 d 1 3 0 \n5 0 4 2 0 \n39 d 5 0 \n6 -2 0 5 0 \n\t c\n1 d 2 6 0 \n7 -3 -3 -3 0 4 4 0 \n8 3 2 -2 0 5 0 \n1 d 1 2 3 4 0 \n") (codes "bad - 2 NotUnit 2") 9
unfolding digits
input_257 = refl

input_258 : Answers (codes "p cnf 7 21\nc1 2 0 3 0\nc end 0\n-5 2 0\n5 -7 3 -4 0\n6 -5 3 0\n\r-7 6 5  0 \n\r7\t1\t3 \t\r 5 \t\r 0\nc" ++ (11 ∷ []) ++ codes "\n6 0\n-7 -3 0\n\r7 \t\r -1\t4 \t\r 0\n1 -2 -6 0\n-7\t-4 2  0\nc comment\n1 \t\r 7 0\r\n\t c\n-6 5 3 -7 0\n3 4 0\n7 1 0\n -3 \t\r 7 -2 0\n\n5 -7 3 0\ncp cnf 1 1\n-1 -2 0\nc" ++ (11 ∷ []) ++ codes "\n5\t1\r0 \n\r-5\r-7 0\n-2 0\n3 4 0\n22 -2 5 0 20 1 0\n23 -2 2 0 20 0\nc\n\n 24\t1 \t\r 0 11 18 \t\r 19 0\n25 -1 -2 0 2147483648 20 0\n 26\r-2 \t\r 0 25  11 \t\r 18 19\r0\r\n9223372036854775807 d \t\r 17  12\t0\nc end 0\nc\n26 d 13 0\n27 -1 2 -3 -4 5 -6 -7 0 10 0\n") (codes "bad - 4 NoClause 2147483648") 9
unfolding digits
input_258 = refl

input_259 : Answers (codes "p cnf 1000 23\t\r \n7 0\t\r \n7 4 -5 0\t\r \n-5 -2 6 -7 0\t\r \n-1 2 5 0\t\r \n2 3 6 0\t\r \n\t 3 \t\r -4 \t\r -2  0\t\r \n-2 4 -5 0\t\r \n-6 7 2 0\t\r \n-6 0\t\r \n-7 0\t\r \n6 2 3 0\t\r \n-2 3 -4 0\t\r \n2 -6 4 7 0\t\r \nc comment\n-7 2 -1 5 0\t\r \n\n-7 4 3 0\t\r \n-3 -6 -4 0\t\r \n-7 -4 2 0\t\r \n-2 3 -1 0\t\r \n-3 2 5 0\t\r \n-3 -5 1 -4 0\t\r \nc\n4 -5 6 3 0\t\r \n-7 5 0\t\r \n-6 -1 0\t\r \n871  0 0\t\r \n21 d 4294967297 0\t\r \n 872 \t\r 0  1 10 0 \t\r \t\r \n") (codes "bad - 1 NoConflict") 9
unfolding digits
input_259 = refl

input_260 : Answers (codes "p cnf 2 3\n1 0\n-1 2 0\n-2 0\n4 0 1 3 2 0\n") (codes "refuted") 0
unfolding digits
input_260 = refl

input_261 : Answers (codes "p cnf 7 3\n4 5 0\n3 -6 0\n4 -1 0\n4 0 0\n7 -4 -1 0 3 3 0\n5 1 2 0 2 4 0\n6 0 0\n13 d 1 0\n7 -4 -1 0 3 3 0\n8 4 4 -4 0 4 0\n1 d 3 8 8 0\n") (codes "bad - 1 NoConflict") 9
unfolding digits
input_261 = refl

input_262 : Answers (codes "p cnf 2147483647 2\n-2147483647 0 2147483647 0\n445 0 2 1 0\n492 -2147483647 0 445 1 1 0\n") (codes "refuted") 0
unfolding digits
input_262 = refl

input_263 : Answers (codes "p cnf 5 0\n1 -1 0 -1 2 -1 0\n2 1 1 0 1 0\n3 -4 -3 -4 0 0\n4 1 -2 -4 0 3 1 6 0\n5 1 -4 -4 0 0\n6 -3 0 3 5 0\n") (codes "bad - 1 RatLine") 9
unfolding digits
input_263 = refl

input_264 : Answers (codes "c " ++ (0 ∷ []) ++ (255 ∷ []) ++ (254 ∷ []) ++ codes "\n\r\np cnf 3 4\t\r \n-1\t\r \n-2\t\r \n0\t\r \n1\t\r \n-2\t\r \n0\t\r \n-1\t\r \n2\t\r \n0\t\r \n 1 \t\r \t\r \n2\t\r \n0\t\r \n5 2 -2147483647 0 99 3 4 0\t\r \n6 -1 2 0 3 0\t\r \n7 2 -1 0 6 0\t\r \n\t\n8 1 2 0 4 0\t\r \n9 1 0 2 4 0\t\r \n10 0 9 1 3 0\t\r \n") (codes "bad - 1 NoClause 99") 9
unfolding digits
input_264 = refl

input_265 : Answers (codes "p cnf 2147483647 0\n1 -1 0 2 9223372036854775807 9223372036854775807 9223372036854775807 2 -1 0\n6 d 1 0\n") (codes "bad - 1 NoClause 2") 9
unfolding digits
input_265 = refl

input_266 : Answers (codes "p cnf 3 8\r\n\t -1\r\r\n2\r\n-3\r\n0\r\n\t 1 \r\n2\r\n\r-3\r\n0\t\r\n1\r\n2\r\n3\r\n\t\n0\r\n-1\r\n 2\r\n3\r\n0\r\n-1\r\n-2\r\n3\r\n0\r\n1\r\n-2\r\n3\r\n0\r\n1\r\n-2\r\n-3\r\n0\r\n\t c\n-1\r\nc 1 2 0\n-2\r\n\n-3\r\n0\r\n85693714104 -2 -1 3 0 5 0\r\n1049294716132 -3 -2 0 7 8 0\r\ncomment\n1101540913203 1 2 0 2 3 0\r\n2175303641916 1 0 1101540913203 7 6 0\r\n2360759284826 -1 -2 0 85693714104 8 0\r\n2694596528125 -1 0 2360759284826 1 4 0\r\n\t c\n\r3219335260627 0\r2694596528125 1101540913203 1049294716132 6 \t\r 0 \r\n1 d 7 4 85693714104 0\r") (codes "refuted") 0
unfolding digits
input_266 = refl

input_267 : Answers (codes "p cnf 4 16\n-1 -2 -3\n-4 0\n1 -2 -3\n-4 0 -1 2 -3\n-4 0 1\n2 -3 -4 0 -1 -2 3\n-4\n0\n1 -2 3 -4 0 -1 2\n3 -4 0\n1 2\n3 -4 0\n-1 -2\n-3\n4\n0 1 -2 -3 4\n0 -1 2 -3 4 0 1 2\n-3 4 0 -1 -2\n3 4 0 1 -2\n3\n4 0 -1 2\n3\n4\n0\n1 2 3 4 0\n17 1 -2 3 0 14 6 0\n18 1 -2 0 17 10 2 0\n19 1 2 3 0 8 16 0\n20 1 2 0 19 12 4 0\n21 1 0 18 19 12 20 0\n22 -1 -2 -4 0 5 1 0\n23 -1 -2 0 22 13 9 0\n24 -1 2 -3 0 11 3 0\n25 -1 2 0 24 15 7 0\n26 -1 0 23 25 0\n27 0 26 18 19 4 20 0\n27 d 17 0\n") (codes "refuted") 0
unfolding digits
input_267 = refl

input_268 : Answers (codes " p cnf \t\r 4 0 \r\nc comment\ncomment\n\n\r\n1 -1 4 -2 0 0\r\n2 -2 2 0 1 1 1 0\r\n3 4 0 1 1 0\r\nc comment\n 4 0\t3 3 0\r\n") (codes "bad - 1 NoConflict") 9
unfolding digits
input_268 = refl

input_269 : Answers (codes "p cnf 3 11\r\n3 1 2 0\r\n1 2 0\r\n3 2 1 0\r\n-2 0\r\n-3 -1 -2 0\r\n3 2 -1 0\r\n-1 -2 0\r\n-3 -1 2 0\r\n1 2 -3 0\r\n-3 -1 2 0\r\n-2 -3 -1 0\r\n69 d 8 0\r\n932068449929 0 4 2 6 0\r\n") (codes "bad - 2 NoConflict") 9
unfolding digits
input_269 = refl

input_270 : Answers (codes "p cnf 2 5\n-1 -2 0\nc\n c note\n1 \t\r -2 0  \nc 1 2 0\nc" ++ (11 ∷ []) ++ codes "\n-1 2 0\n1 2\t0\n   cut\n\t 0 \nc 1 2 0\n48 d 1 0\n5 1 0 4 1 4 2 0\n\rc") (codes "bad - 2 IdOrder") 9
unfolding digits
input_270 = refl

input_271 : Answers (codes "p cnf 2 10\r\n-2\r\n1\r\n0\r\n1\r\n-2\r\n0\r\n-1\r\n-2\r\n0\r\n-1\r\n0\r\n1\r\n2\r\n0\r\n2\r\n-1\r\n0\r\n-2\r\n1\r\n0\r\n-2\r\n1\r\n0\r\n-2\r\n-1\r\n0\r\n2\r\n-1\r\n0\r\n11 2 0 4 5 0\r\n13 -1 0 4 0\r\n12 0 11 2 3 0\r\n") (codes "bad - 3 IdOrder") 9
unfolding digits
input_271 = refl

input_272 : Answers (codes "\t c\ncnf\np cnf 2 9 \n1 \n-2 \n0 \n-2 \n1 \n0 \n-2 \n1 \n0 \n1 \n-2 \n0 \nc\n-2 \n-1 \n0 \n1  \n-2\t \n\n0 \n2 \n\n1 \n \n \t\r\n0 \n-1 \n\r-2 \n0 \n2  \n-1 \n0 \n10 -2 0 5 6 0 \n11 2 1 0 7 0 \n11 d 0 \n12 0 12 10 7 9 0 \n \t\r\n") (codes "bad - 4 NoClause 12") 9
unfolding digits
input_272 = refl

input_273 : Answers (codes "p cnf 8 9\r\n-1 -2 -3 0\r\n1 -2 -3 0\r\n-1 2 -3 0\r\n1 2 -3 0\r\n0\r\n-1 -2 3 0\r\n1 -2 3 0\r\n-1 2 3 0\r\n1 2 3 0\r\n11 0 -5 0\r\n") (codes "bad - 1 RatLine") 9
unfolding digits
input_273 = refl

input_274 : Answers (codes "p cnf 0 1\n0\n ") (codes "refuted") 0
unfolding digits
input_274 = refl

input_275 : Answers (codes "p cnf 1 5\n-1 0\n1 1 0 -1 0 1 -1 0 1 0\n6 -1 0 1 0\n7 0 5 1 0\n") (codes "refuted") 0
unfolding digits
input_275 = refl

input_276 : Answers (codes "p cnf 2 4\t\r \n1 0\t\r \nc comment\n-1 2 0\t\r \n-2 0\t\r \n 0  \t\r \n4 0 3 2 1 0\t\r \n") (codes "bad - 1 IdOrder") 9
unfolding digits
input_276 = refl

input_277 : Answers (codes "\rc\np cnf 6 2\r\n-1\r\n0\r\n1\r\n1\r\n0\r\n3\t-3 \t\r 1\r0\t1\t1 2 0 \t\r \r\n4 0 2 1 0\r\n2 \t\r d 0\r\n") (codes "refuted") 0
unfolding digits
input_277 = refl

input_278 : Answers (codes "p cnf 1 1\n1\n0\n2 1 0 1 0\n3 1 0 2 0\n4 -1 1 1 0 2 0\n44 d 1 0\n5 -1 0 1 2 1 1 4 4 0\n") (codes "bad - 5 NoClause 1") 9
unfolding digits
input_278 = refl

input_279 : Answers (codes "p cnf 2 3\t\r \n1 0\t\r \n-1 2 0\t\r \n-2 0\t\r \n4 -1 0 2 3 0\t\r \n5 0 3 2 1 0\t\r \n6 1 -2 0 1 0\t\r \n") (codes "refuted") 0
unfolding digits
input_279 = refl

input_280 : Answers (codes "p cnf 2147483647 21\n3\n0\n3\n-2\n-5\n4\n0\n-5\n-3\n-6\n0\n5\n6\n-4\n0\n5\n1\n0\n-6\n2\n0\n-2\n3\n1\n6\n0\n4\n0\n5\n-6\n-3\n0\n3\n-4\n0\n-3\n0\n6\n-4\n-5\n0\n-5\n4\n-6\n0\n6\n-5\n-4\n0\n3\n0\n-3\n4\n0\n3\n2\n0\n2\n-3\n-1\n6\n0\n-6\n-5\n0\n3\n-4\n5\n0\n-5\n1\n0\n22 0 8 10 11 0") (codes "refuted") 0
unfolding digits
input_280 = refl

input_281 : Answers (codes "p cnf 5 5\n-5 4 0 2\n4\n0 -3\n4 5 0\n-5 0 4 -5 1 0\n6 0 4 1 4 4 4 0\n7 0 -1 5 1 6 0\n8 -1 1 0 7 0\n9 3 0 4 10 4 0\n7 d 7 0\n10 4 2 2 0 4 1 0\n") (codes "bad - 1 NotUnit 1") 9
unfolding digits
input_281 = refl

input_282 : Answers (codes "p cnf 3 8\t\r \n-1 -2 -3 0\t\r \n1 -2 -3 0\t\r \n-1 2 -3 0\t\r \n1 2 -3 0\t\r \n-1 -2 3 0\t\r \n1 -2 3 0\t\r \n-1 2 3 0\t\r \n1 2 3 0\t\r \n9 -2 -3 0 1 2 0\t\r \n10 2 3 0 8 7 0\t\r \n11 3 -1 0 7 5 0\t\r \n9223372036854775807 -3 -1 0 3 9 0\t\r \n13 3 0 11 6 8 0\t\r \n14 0 13 12 4 9 0\t\r \n") (codes "bad - 5 IdOrder") 9
unfolding digits
input_282 = refl

input_283 : Answers (codes "c 1 2 0\np\tcnf 3 \t\r 3\n-1 2  3 0 -1 \t\r -2\r-3 0 1 -2 \t\r -3 0  \n4 0 0\n\r5 1\r2\r2\r0 4 0\n6 -3 0 4 4294967297 4 0\n1 -2 0 6 4 0\n8 d 7 0\n\t 8\r2 0 0\n") (codes "bad - 1 NoConflict") 9
unfolding digits
input_283 = refl

input_284 : Answers (codes "p cnf 5 10\t\r \n3\t4 0\t\r \n-5 -2 0\t\r \n-5 -2 0\t\r \n\rc\n2 -4 3 0\t\r \n-2 1\r-3\r0 \t\r \n5 -3 0\t\r \nc" ++ (11 ∷ []) ++ codes "\n -1\t-4\t0 \t\r \t\r \n5 -1 3 0\t\r \n3 5 0\t\r \n\t 4 -5  -3\t2\r0\t\r \n11  4 -5 0 1\r10\t2 0\t\t\r \nc\n12 -2 -5 3 0 2 0\t\r \n 13\r-2 0 3\t9 6  0\t\r \n14 2 -1 0 7 1 6 11 0\t\r \n15 2 1 3 0 9 11 4 0\t\r \ncnf\nc end 0\n\r16  -2 -4 0  3 6\t9 \t\r 0  \t\r \n17 2 1 -3 -5 4 0 -11 0\t\r \n") (codes "bad - 7 RatLine") 9
unfolding digits
input_284 = refl

input_285 : Answers (codes "p cnf 1 2\t\r \n1\t0 \t\r -1  0 \t\r \t\r \n415872881444 1 0 1 0\t\r \n832415254133 1 0 415872881444 415872881444 9223372036854775807 0\t\r \n913285537594 1 0 415872881444 0\t\r \n1883432766826 -1 0 2 0\t\r \n2327217529110 -1\t0\r1883432766826 0 \t\r \n3300985185834 0 832415254133 2 0\t\r \n3590376836540 1 0  1 \t\r 0\t\r \n") (codes "refuted") 0
unfolding digits
input_285 = refl

input_286 : Answers (codes "p cnf 6 24\n-6 -1 0\n5 -6 0\n5 3 6 0\n5 0\n-2 0\n-3 -4 0\n2 1 -3 0\n4 6 0\n4 0\n-6 0\n-1 2 5 0\n-4 -6 0\n-3 4 0\n5 -3 0\n-1 -2 -6 0\n-3 -6 0\n-3 0\n2 6 0\n5 3 -1 0\n-5 -3 2 0\n-5 6 -4 0\n4 6 0\n2 3 -4 0\n2 -3 0\n867480868598 6 5 -3 0 13 6 0\n955914599263 5 0 10 5 3 6 13 0\n1750419255039 2 -2 0 955914599263 24 10 21 5 0\n2323403348539 0 1901814889347 17 5 9 21 12 0\n") (codes "bad - 4 NoClause 1901814889347") 9
unfolding digits
input_286 = refl

input_287 : Answers (codes "p cnf 5 17\n\r-2 -3 \t\r -1 \t\r 0 \t\r -2 \t\r 3\r0 2 \t\r 5 \t\r 1  0 5\t4 -1 0 4 0\r-4\t0\r4\t-2 \t\r -1  0 -1  5\r3 0 3\r-5\r0  1 -2 -5 0 \t\r -4\r1  2  0  -3 -5\t0  -1\r-5\t4 0 \t\r -4 \t\r -5 1\t-2  0 \t\r -1 0 -4 \t\r 5  2 3 0  -5 -3  -1 \t\r 0  \n19 0 6 5 0\n") (codes "refuted") 0
unfolding digits
input_287 = refl

input_288 : Answers (codes "p cnf 4 12\t\r \n-4 -1 2 0\t\r \n4 -2 0 1 3 0 -4 1 -3 0 1 4 -2 3 0 -1 0 4 -3 -2 0 -1 -2 -3 0 4 -1 0 -3 -4 1 0\t\r \n4 -2 0 3\t\r \n-4 0\t\r \n354147736480 -4 2 -3 0 6 10 0\t\r \n1355764456669 -1 0 6 0\t\r \n1828117993988 -1 0 6 0\t\r \n1828117993988 d 1355764456669 0\t\r \n48 d 13 1355764456669 2558329712021 0\t\r \n2173468428426 1 -2 0 3 4 7 0\t\r \n2525583717168 1 2 -4 0 12 10 0\t\r \n2558329712021 1 2 4 3 0 3 1 2525583717173 -9223372036854775807 0\t\r ") (codes "bad - 5 NoClause 13") 9
unfolding digits
input_288 = refl

input_289 : Answers (codes "p cnf 2 0\t\r \n\t\r \n1 2 -1 2 0 -1 0\t\r \n2 2 2 1 0 1 0\t\r \n") (codes "bad - 1 RatLine") 9
unfolding digits
input_289 = refl

input_290 : Answers (codes "p cnf 2 4 \n-1 \t\r -2\t0 \t\r  \n\r-1 2 0\r \ncomment\n1 2 0 \n1 -2 0 \n5 1 0 4 3 0 \n\t 6 -1\t0  1 2\t0 \n7 0 5 1 1 6 0 \n") (codes "refuted") 0
unfolding digits
input_290 = refl

input_291 : Answers (codes "p cnf 2 8\n1 2 0\n1 0\n-2 1 0\n2 1 0\n-2 2 -1 0\n2 1 0\n2 -1 0\n-1 0\n9 -2 0 2 8 0\n10 1 -2 0 2 0\n11 0 2 8 0\n12 1 -2 0 9223372036854775807 0\n") (codes "bad - 4 NoClause 9223372036854775807") 9
unfolding digits
input_291 = refl

input_292 : Answers (codes "p cnf 6 9\n1 2 0 3 4 0 5 6 0 -3 -1 0 -5 -1 0 -5 -3 0 -4 -2 0 -6 -2 0 -6 -4 0\n10 -6 0 8 1 1 5 4 2 9 0\n11 4 1 0 10 1 2 6 3 0\n12 0 10 3 5 1 7 2 6 0\n1 d 4 10 8 0") (codes "refuted") 0
unfolding digits
input_292 = refl

input_293 : Answers (codes "p cnf 3 8\n-1 -2 -3 0\n1 -2 -3 0\n-1 2 -3 0\n1 2 -3 0\n-1 -2 3 0\n1 -2 3 0\n-1 2 3 0\n1 2 3 0\n9007889427597913 1 2 0 4 8 0\n9008500423033498 1 0 9007889427597913 2 6 0\n22 d 9008500423033498 0\n9008500423033497 1 0 9007889427597913 2 6 0\n9009439662429622 -1 2 0 7 3 0\n9009591630089645 -1 0 9009439662429622 1 5 0\n9009871630566459 0 9009591630089645 9008500423033498 0\n") (codes "bad - 4 IdOrder") 9
unfolding digits
input_293 = refl

input_294 : Answers (codes "p cnf 7 3 \n1 0 \n2 0 \n-2 -1 0 \n9007199254740993 0 1 3 0 \n45 d 9007199254740993 0 \n") (codes "bad - 1 NoConflict") 9
unfolding digits
input_294 = refl

input_295 : Answers (codes "p cnf 7 6 \n4 -6 \n-7 \ncp cnf 1 1\n0 \n-1 \nc" ++ (11 ∷ []) ++ codes "\n \t\r\n\rc\n\r-7\r-5\r0 \t\r 5\t \n0 6 -4 0 1 6 \n2 2 0 \n5 -1 0 \n \n\n\t 9  d\t6\r0 \n3 d 1 0 \n\r7 \t\r 0\r3  0\t \n8 3 2147483647 -3 -2 0 3 7 0 \nc\n\t 9 4 0 \t\r 0 \t\r  \n") (codes "bad - 3 NoConflict") 9
unfolding digits
input_295 = refl

input_296 : Answers (codes "p cnf 1 2\t\r \n-1 0\t\r \n1 0\t\r \n3 1 0 2 0\t\r \n4 1 0 3 0\t\r \n5 0 1 2 0\t\r \n6 -1 1 0 3 0\t\r ") (codes "refuted") 0
unfolding digits
input_296 = refl

input_297 : Answers (codes "p cnf 2147483647 5\n-2147483645 -2147483647 -2147483646 0\n2147483645 2147483647 -2147483646 0\n-2147483646 2147483645 2147483647 0\n2147483645 -2147483646 -2147483647 0\n-2147483647 2147483645 -2147483647 0\n6 0 2 0\n7 -3 1 -1 0 6 0\n8 3 -2 0 6 0\n9 0 0\n6 d 7 3 0\n") (codes "bad - 1 NotUnit 2") 9
unfolding digits
input_297 = refl

input_298 : Answers (codes "p cnf 6 9\n1\n2\n0\n3\n4\n0\n5\n6\n0\n-3\n-1\n-3\n0\n-5\n-1\n0\n-5\n-3\n0\n-4\n-2\n0\n-6\n-2\n0\n-6\n-4\n0\n10 -1 0 4 2 9 3 5 0\n11 -4 -2 -2147483647 0 7 0\n12 0 10 1 8 3 6 2 7 0\n") (codes "refuted") 0
unfolding digits
input_298 = refl

input_299 : Answers (codes "\rp\tcnf \t\r 3  0\n1\t0 \t\r -1 0 \n") (codes "bad - 1 RatLine") 9
unfolding digits
input_299 = refl

input_300 : Answers (codes "p cnf 2 5\n   cut\n c note\n-1 2 0 1 2 0 1 -2 0 -1 -2 0 0\n5 2 1 0 3 1 0\n6 1 -2 0 0\n7 d 5 0\nc" ++ (11 ∷ []) ++ codes "\n7 -1 -2 2 0 4 0\n8 1 -1 -2 0 2 4 0\nc " ++ (0 ∷ []) ++ (255 ∷ []) ++ (254 ∷ []) ++ codes "\nc " ++ (0 ∷ []) ++ (255 ∷ []) ++ (254 ∷ []) ++ codes "\n\n") (codes "bad - 1 IdOrder") 9
unfolding digits
input_300 = refl
