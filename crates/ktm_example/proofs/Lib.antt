mod Installing
